-- Each rule is sound.
use Rattle.std.proofs.Common.{◌≡◌, ℕ, Bool, true, false, ⊎_elim, Some, None, refl, sym, ap, subst, ◌∙◌, if◌then◌else◌, arith}
use Rattle.std.proofs.lemmas.Bool.{or_cases, false≢true, eqb-true}
use Rattle.std.proofs.lemmas.Option.{none-some, same_Some}
use Rattle.std.proofs.lemmas.Nat.{and_mask, and_comm}
use Rattle.std.specs.Int.Bits.{and_zero_r, or_zero_r, xor_zero_r, and_self, or_self, xor_self}
use Rattle.nv_base.specs.declared.term.Atom.{Atom}
use Rattle.nv_base.specs.declared.term.Atom.TheVariants.{Var, Lit}
use Rattle.nv_base.specs.declared.term.Bin.{Bin}
use Rattle.nv_base.specs.declared.term.Bin.TheVariants.{Add, Sub, And, Or, Xor}
use Rattle.nv_base.specs.declared.term.Primitive.{Primitive}
use Rattle.nv_base.specs.declared.term.Primitive.TheVariants.{Same, Una as UnaOf, Bin as BinOf}
use Rattle.nv_base.specs.Words.{IsWord, Env, IsEnv, HasPrimCount, word, word_sum, word_difference, una_word, bin_word, atom_word, atom_vars}
use Rattle.nv_base.proofs.Environments.{atom-fits}
use Rattle.nv_base.proofs.Sets.{within-left, within-right}
use Rattle.nv_base.proofs.WordLemmas.{word-fits, una-fits, bin-fits}
use Rattle.cps_rules.specs.Rules.{IsSound}
use Rattle.nova_middle.specs.Rules.{value_rule, is_literal, is_operand, ones, leaves_first, leaves_second, operand_rule, leaves_nothing, nothing_rule}

-- a number below 2^32 is its own word
same-word : (n : ℕ) → IsWord n → word n ≡ n
same-word n fits = omega arith

answers : (p r q : Primitive) → IsSound p r → Some r ≡ Some q → IsSound p q
answers p r q h e = subst (IsSound p) (same_Some r q e) h

-- ---- values

pub value_sound : (p q : Primitive) → HasPrimCount p → value_rule p ≡ Some q → IsSound p q
value_sound (Same a) q count e = absurd (none-some q e)
value_sound (UnaOf op (Lit v)) q count e =
    answers (UnaOf op (Lit v)) (Same (Lit (una_word op (word v)))) q
    (record { word = λ env fits. same-word (una_word op (word v)) (una-fits op (word v) count (word-fits v)); uses = λ y i. i; count = tt }) e
value_sound (UnaOf op (Var x)) q count e = absurd (none-some q e)
value_sound (BinOf op (Lit v) (Lit w)) q count e =
    answers (BinOf op (Lit v) (Lit w)) (Same (Lit (bin_word op (word v) (word w)))) q
    (record { word = λ env fits. same-word (bin_word op (word v) (word w)) (bin-fits op (word v) (word w) (word-fits v) (word-fits w)); uses = λ y i. i; count = tt }) e
value_sound (BinOf op (Lit v) (Var y)) q count e = absurd (none-some q e)
value_sound (BinOf op (Var x) b) q count e = absurd (none-some q e)

-- ---- operands

literal-word : (n : ℕ) (a : Atom) (env : Env) → is_literal n a ≡ true → atom_word env a ≡ word n
literal-word n (Lit v) env e = ap word (eqb-true v n e)
literal-word n (Var x) env e = absurd (false≢true e)

same-operand : (a b : Atom) (env : Env) → is_operand a b ≡ true → atom_word env a ≡ atom_word env b
same-operand (Var x) (Var y) env e = ap env (eqb-true x y e)
same-operand (Lit v) (Lit w) env e = ap word (eqb-true v w e)
same-operand (Var x) (Lit w) env e = absurd (false≢true e)
same-operand (Lit v) (Var y) env e = absurd (false≢true e)

sum-nothing : (x y : ℕ) → IsWord x → y ≡ 0 → x ≡ word_sum x y
sum-nothing x y fits e = let r : word_sum x 0 ≡ x = omega arith in sym r ∙ ap (word_sum x) (sym e)

nothing-sum : (x y : ℕ) → IsWord y → x ≡ 0 → y ≡ word_sum x y
nothing-sum x y fits e = let r : word_sum 0 y ≡ y = omega arith in sym r ∙ ap (λ v. word_sum v y) (sym e)

less-nothing : (x y : ℕ) → IsWord x → y ≡ 0 → x ≡ word_difference x y
less-nothing x y fits e = let r : word_difference x 0 ≡ x = omega arith in sym r ∙ ap (word_difference x) (sym e)

masked : (x : ℕ) → IsWord x → x ≡ bin_word And x ones
masked x fits = sym (and_mask x 32 ∙ same-word x fits)

first-word : (op : Bin) (a b : Atom) → leaves_first op a b ≡ true → (env : Env) → IsEnv env → atom_word env a ≡ bin_word op (atom_word env a) (atom_word env b)
first-word Add a b e env fits = sum-nothing (atom_word env a) (atom_word env b) (atom-fits env a fits) (literal-word 0 b env e)
first-word Sub a b e env fits = less-nothing (atom_word env a) (atom_word env b) (atom-fits env a fits) (literal-word 0 b env e)
first-word Or a b e env fits =
    ⊎_elim (λ (h : is_literal 0 b ≡ true). sym (or_zero_r (atom_word env a)) ∙ ap (bin_word Or (atom_word env a)) (sym (literal-word 0 b env h)))
    (λ (h : is_operand a b ≡ true). sym (or_self (atom_word env a)) ∙ ap (bin_word Or (atom_word env a)) (same-operand a b env h)) (or_cases (is_literal 0 b) (is_operand a b) e)
first-word Xor a b e env fits = sym (xor_zero_r (atom_word env a)) ∙ ap (bin_word Xor (atom_word env a)) (sym (literal-word 0 b env e))
first-word And a b e env fits =
    ⊎_elim (λ (h : is_literal ones b ≡ true). masked (atom_word env a) (atom-fits env a fits) ∙ ap (bin_word And (atom_word env a)) (sym (literal-word ones b env h)))
    (λ (h : is_operand a b ≡ true). sym (and_self (atom_word env a)) ∙ ap (bin_word And (atom_word env a)) (same-operand a b env h)) (or_cases (is_literal ones b) (is_operand a b) e)

second-word : (op : Bin) (a b : Atom) → leaves_second op a ≡ true → (env : Env) → IsEnv env → atom_word env b ≡ bin_word op (atom_word env a) (atom_word env b)
second-word Add a b e env fits = nothing-sum (atom_word env a) (atom_word env b) (atom-fits env b fits) (literal-word 0 a env e)
second-word Sub a b e env fits = absurd (false≢true e)
second-word Or a b e env fits = ap (λ v. bin_word Or v (atom_word env b)) (sym (literal-word 0 a env e))
second-word Xor a b e env fits = ap (λ v. bin_word Xor v (atom_word env b)) (sym (literal-word 0 a env e))
second-word And a b e env fits =
    masked (atom_word env b) (atom-fits env b fits) ∙ and_comm (atom_word env b) ones ∙ ap (λ v. bin_word And v (atom_word env b)) (sym (literal-word ones a env e))

operand-at : (f s : Bool) (op : Bin) (a b : Atom) (q : Primitive) → leaves_first op a b ≡ f → leaves_second op a ≡ s → (if f then Some (Same a) else (if s then Some (Same b) else None)) ≡ Some q → IsSound (BinOf op a b) q
operand-at true s op a b q f g e = answers (BinOf op a b) (Same a) q (record { word = first-word op a b f; uses = within-left (atom_vars a) (atom_vars b); count = tt }) e
operand-at false true op a b q f g e = answers (BinOf op a b) (Same b) q (record { word = second-word op a b g; uses = within-right (atom_vars a) (atom_vars b); count = tt }) e
operand-at false false op a b q f g e = absurd (none-some q e)

pub operand_sound : (p q : Primitive) → operand_rule p ≡ Some q → IsSound p q
operand_sound (Same a) q e = absurd (none-some q e)
operand_sound (UnaOf op a) q e = absurd (none-some q e)
operand_sound (BinOf op a b) q e = operand-at (leaves_first op a b) (leaves_second op a) op a b q refl refl e

-- ---- nothing

difference-same : (x : ℕ) → IsWord x → 0 ≡ word_difference x x
difference-same x fits = omega arith

nothing-word : (op : Bin) (a b : Atom) → leaves_nothing op a b ≡ true → (env : Env) → IsEnv env → 0 ≡ bin_word op (atom_word env a) (atom_word env b)
nothing-word Add a b e env fits = absurd (false≢true e)
nothing-word Sub a b e env fits = difference-same (atom_word env a) (atom-fits env a fits) ∙ ap (word_difference (atom_word env a)) (same-operand a b env e)
nothing-word Or a b e env fits = absurd (false≢true e)
nothing-word Xor a b e env fits = sym (xor_self (atom_word env a)) ∙ ap (bin_word Xor (atom_word env a)) (same-operand a b env e)
nothing-word And a b e env fits =
    ⊎_elim (λ (h : is_literal 0 a ≡ true). ap (λ v. bin_word And v (atom_word env b)) (sym (literal-word 0 a env h)))
    (λ (h : is_literal 0 b ≡ true). sym (and_zero_r (atom_word env a)) ∙ ap (bin_word And (atom_word env a)) (sym (literal-word 0 b env h))) (or_cases (is_literal 0 a) (is_literal 0 b) e)

nothing-at : (f : Bool) (op : Bin) (a b : Atom) (q : Primitive) → leaves_nothing op a b ≡ f → (if f then Some (Same (Lit 0)) else None) ≡ Some q → IsSound (BinOf op a b) q
nothing-at true op a b q f e = answers (BinOf op a b) (Same (Lit 0)) q (record { word = nothing-word op a b f; uses = λ y i. absurd (false≢true i); count = tt }) e
nothing-at false op a b q f e = absurd (none-some q e)

pub nothing_sound : (p q : Primitive) → nothing_rule p ≡ Some q → IsSound p q
nothing_sound (Same a) q e = absurd (none-some q e)
nothing_sound (UnaOf op a) q e = absurd (none-some q e)
nothing_sound (BinOf op a b) q e = nothing-at (leaves_nothing op a b) op a b q refl e
