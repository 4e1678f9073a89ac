-- Where the rules are done.
use Rattle.std.proofs.Common.{◌≡◌, ℕ, Bool, true, false, ◌||◌, ◌⊎◌, inl, inr, ⊎_elim, Option, Some, None, is_some, List, [], ◌∷◌, sym, ap, ◌∙◌, if◌then◌else◌, All}
use Rattle.std.proofs.lemmas.Bool.{or_from, false≢true}
use Rattle.std.proofs.lemmas.Option.{none-some, same_Some}
use Rattle.std.proofs.lemmas.List.Elements.{All-nil, All-cons, All-head, All-tail}
use Rattle.nv_base.specs.declared.term.Atom.{Atom}
use Rattle.nv_base.specs.declared.term.Atom.TheVariants.{Var, Lit}
use Rattle.nv_base.specs.declared.term.Primitive.{Primitive}
use Rattle.nv_base.specs.declared.term.Primitive.TheVariants.{Same, Una as UnaOf, Bin as BinOf}
use Rattle.flow_ir.specs.Tree.{Tree, Let, Read, Write, If, Jump, Halt, Label}
use Rattle.cps_rules.specs.Rules.{Answers, IsAnswered, IsSomeOf}
use Rattle.cps_rules.specs.Simplified.{EachLet, is_same, IsTidy, AreTidy, AreSimplified}
use Rattle.nova_middle.specs.Rules.{value_rule, leaves_first, leaves_second, operand_rule, leaves_nothing, nothing_rule, is_answered, IsAtRest}

-- ---- the rules answer operands alone

abbrev SaysSame : Option Primitive → Type 0
SaysSame o = (q : Primitive) → o ≡ Some q → is_same q ≡ true

nothing-said : SaysSame None
nothing-said q e = absurd (none-some q e)

same-said : (a : Atom) → SaysSame (Some (Same a))
same-said a q e = ap is_same (sym (same_Some (Same a) q e))

if-said : (b : Bool) (o r : Option Primitive) → SaysSame o → SaysSame r → SaysSame (if b then o else r)
if-said true o r h k = h
if-said false o r h k = k

pub value_same : (p : Primitive) → SaysSame (value_rule p)
value_same (Same a) = nothing-said
value_same (UnaOf op (Lit v)) = same-said _
value_same (UnaOf op (Var x)) = nothing-said
value_same (BinOf op (Lit v) (Lit w)) = same-said _
value_same (BinOf op (Lit v) (Var y)) = nothing-said
value_same (BinOf op (Var x) b) = nothing-said

pub operand_same : (p : Primitive) → SaysSame (operand_rule p)
operand_same (Same a) = nothing-said
operand_same (UnaOf op a) = nothing-said
operand_same (BinOf op a b) = if-said (leaves_first op a b) (Some (Same a)) (if leaves_second op a then Some (Same b) else None) (same-said a) (if-said (leaves_second op a) (Some (Same b)) None (same-said b) nothing-said)

pub nothing_same : (p : Primitive) → SaysSame (nothing_rule p)
nothing_same (Same a) = nothing-said
nothing_same (UnaOf op a) = nothing-said
nothing_same (BinOf op a b) = if-said (leaves_nothing op a b) (Some (Same (Lit 0))) None (same-said (Lit 0)) nothing-said

-- ---- answers of the rules, asked one after the other

-- an answer of the three is one of them, or no rule has one
pub record Asks (A : Answers) : Type 0 where
  pub some : (p q : Primitive) → A p (Some q) → (value_rule p ≡ Some q) ⊎ ((operand_rule p ≡ Some q) ⊎ (nothing_rule p ≡ Some q))
  pub none : (p : Primitive) → A p None → (value_rule p ≡ None) × (operand_rule p ≡ None) × (nothing_rule p ≡ None)

-- the three rules, asked one after the other
pub three : (F G H : Answers) → ((p : Primitive) (a : Option Primitive) → F p a → a ≡ value_rule p) → ((p : Primitive) (a : Option Primitive) → G p a → a ≡ operand_rule p) → ((p : Primitive) (a : Option Primitive) → H p a → a ≡ nothing_rule p) → Asks (λ p a. (IsSomeOf a × F p a) ⊎ (F p None × ((IsSomeOf a × G p a) ⊎ (G p None × H p a))))
three F G H f g h = record {
  some =
      λ p q s.
      ⊎_elim (λ k. inl (sym (f p (Some q) k.1)))
      (λ k. inr (⊎_elim (λ l. inl (sym (g p (Some q) l.1))) (λ l. inr (sym (h p (Some q) l.1))) k.1)) s;
  none =
      λ p s.
      ⊎_elim (λ k. absurd (none-some k.0.0 k.0.1))
      (λ k. ⊎_elim (λ l. absurd (none-some l.0.0 l.0.1)) (λ l. (sym (f p None k.0), sym (g p None l.0), sym (h p None l.1))) k.1) s;
}

at_rest : (A : Answers) → Asks A → (p q : Primitive) → IsAnswered A p q → is_same q ≡ false → is_answered q ≡ false
at_rest A asks p q answered other =
    ⊎_elim
    (λ (h : A p (Some q)).
    let same : is_same q ≡ true = ⊎_elim (value_same p q) (λ k. ⊎_elim (operand_same p q) (nothing_same p q) k) (asks.some p q h) in
    absurd (false≢true (sym other ∙ same)))
    (λ h.
    let said = asks.none p h.0 in
    ap is_answered h.1
    ∙ or_from (is_some (value_rule p)) (is_some (operand_rule p) || is_some (nothing_rule p)) (ap is_some said.0)
    (or_from (is_some (operand_rule p)) (is_some (nothing_rule p)) (ap is_some said.1) (ap is_some said.2))) answered

-- ---- trees and labels

lets_at_rest : (P : ℕ → Primitive → Tree → Type 0) (t : Tree) → ((x : ℕ) (q : Primitive) (rest : Tree) → P x q rest → is_same q ≡ false → is_answered q ≡ false) → EachLet P t → IsTidy t → EachLet (λ x q rest. is_answered q ≡ false) t
lets_at_rest P (Let x a t) f h k = (f x a t h.0 k.0.1, lets_at_rest P t f h.1 k.1)
lets_at_rest P (Read m xs a t) f h k = lets_at_rest P t f h k
lets_at_rest P (Write m a bs t) f h k = lets_at_rest P t f h k
lets_at_rest P (If c a b t u) f h k = (lets_at_rest P t f h.0 k.0, lets_at_rest P u f h.1 k.1)
lets_at_rest P (Jump l bs) f h k = tt
lets_at_rest P (Halt e bs) f h k = tt

pub labels_at_rest : (A : Answers) (ls ms : List Label) → AreSimplified A ls ms → AreTidy ms → Asks A → All IsAtRest ms
labels_at_rest A ls [] h k asks = All-nil IsAtRest
labels_at_rest A [] (m ∷ ms) h k asks = absurd h
labels_at_rest A (l ∷ ls) (m ∷ ms) h k asks =
    All-cons IsAtRest m ms (lets_at_rest _ m.body (λ x q rest held other. at_rest A asks _ q held.2 other) h.0.lets (All-head (λ n. IsTidy n.body) m ms k))
    (labels_at_rest A ls ms h.1 (All-tail (λ n. IsTidy n.body) m ms k) asks)
