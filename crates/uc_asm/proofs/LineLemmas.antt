-- What each line's parts are.
use Rattle.std.proofs.Common.{◌≡◌, ◌≢◌, ℕ, suc, ◌<◌, ◌≤◌, ◌^◌, List, [], ◌∷◌, ◌++◌, length, get_or, drop, ◌==◌, true, refl, sym, ap, ◌∙◌, subst, arith, codes, decimal}
use Rattle.nv_lines.specs.Line.{Lacks, parts, parted}
use Rattle.nv_lines.proofs.SplitLaws.{parts-parted, parted-parts, Lacks-test, lacks_not, split_one}
use Rattle.uc_isa.specs.declared.instruction.Cond.{Cond}
use Rattle.uc_isa.specs.declared.instruction.Instr.{Instr}
use Rattle.uc_isa.specs.declared.instruction.Instr.TheVariants.{Br}
use Rattle.uc_asm.proofs.WordLemmas.{instruction-parts, branch-only, condition-lacks, number-lacks}
use Rattle.uc_asm.specs.Words.{condition_name, operands, words, InRange}
use Rattle.uc_asm.specs.Items.{Item, label, plain, jump, IsName, IsItem, IsNameByte, item_line, params_line}

-- a name has none of the bytes that aren't letters, digits or `_`
name-lacks-all : (c : ℕ) (name : List ℕ) → ¬ IsNameByte c → ((k : ℕ) → k < length name → IsNameByte (get_or name k 0)) → Lacks c name
name-lacks-all c [] other h = tt
name-lacks-all c (b ∷ name) other h = ((λ e. other (subst IsNameByte e (h 0 (omega arith)))), name-lacks-all c name other (λ k l. h (suc k) (omega arith)))

pub name-lacks : (c : ℕ) (name : List ℕ) → ¬ IsNameByte c → IsName name → Lacks c name
name-lacks c name other h = name-lacks-all c name other (λ k l. h.bytes k 0 l)

pub no-space : ¬ IsNameByte 32
no-space h = grind arith

no-colon : ¬ IsNameByte 58
no-colon h = grind arith

-- the parts of each line
pub jump-parts : (line : List ℕ) (cond : Cond) (name : List ℕ) → IsName name → line ≡ parted (codes "br" ∷ condition_name cond ∷ name ∷ []) → parts line ≡ codes "br" ∷ condition_name cond ∷ name ∷ []
jump-parts line cond name h e =
    ap parts e ∙ parts-parted (codes "br") (condition_name cond ∷ name ∷ []) (Lacks-test 32 (codes "br") refl, (condition-lacks cond, (name-lacks 32 name no-space h, tt)))

pub params_parts : (line : List ℕ) (n : ℕ) → n ≤ 8 → line ≡ params_line n → parts line ≡ codes "params" ∷ decimal n ∷ []
params_parts line n h e = ap parts e ∙ parts-parted (codes "params") (decimal n ∷ []) (Lacks-test 32 (codes "params") refl, (number-lacks n (omega arith), tt))

pub params_rest : (line : List ℕ) (new : List (List ℕ)) (n : ℕ) → parts line ≡ codes "params" ∷ new → n ≤ 8 → line ≡ params_line n → new ≡ decimal n ∷ []
params_rest line new n e h f = let g = params_parts line n h f in cc (e, g)

pub from_parts : (line : List ℕ) (ps : List (List ℕ)) → parts line ≡ ps → line ≡ parted ps
from_parts line ps e = sym (parted-parts line) ∙ ap parted e

-- a line that is no label's
pub no-label : (line name : List ℕ) → Lacks 58 line → line ≢ name ++ codes ":"
no-label line name l e = lacks_not 58 name [] line l (sym e)

pub other-label : (line front rest name : List ℕ) → line ≡ front ++ 58 ∷ rest → Lacks 58 front → IsName name → line ≡ name ++ codes ":" → (front ≡ name) × (rest ≡ [])
other-label line front rest name e l h f = split_one 58 front rest name [] l (name-lacks 58 name no-colon h) (sym e ∙ f)

-- a line that is no item's
pub no-item : (line : List ℕ) → ((name : List ℕ) → IsName name → line ≢ name ++ codes ":") → ((i : Instr) → InRange i → parts line ≢ words i)
    → ((cond : Cond) (name : List ℕ) → IsName name → parts line ≢ codes "br" ∷ condition_name cond ∷ name ∷ []) → (item : Item) → IsItem item → line ≢ item_line item
no-item line l i j (label name) h e = l name h e
no-item line l i j (plain x) h e = i x h (instruction-parts line x h e)
no-item line l i j (jump cond name) h e = j cond name h (jump-parts line cond name h e)

-- a branch is to a place or to a label
pub only-branch : (line : List ℕ) (ps : List (List ℕ)) → parts line ≡ codes "br" ∷ ps → ((name : List ℕ) → IsName name → line ≢ name ++ codes ":")
    → ((cond : Cond) (place : ℕ) → place < 2 ^ 32 → ps ≢ operands (Br cond place)) → ((cond : Cond) (name : List ℕ) → IsName name → ps ≢ condition_name cond ∷ name ∷ [])
    → (item : Item) → IsItem item → line ≢ item_line item
only-branch line ps e l p n = no-item line l (λ i h f. branch-only ps p i h (sym e ∙ f)) (λ cond name h f. n cond name h (ap (drop 1) (sym e ∙ f)))

pub empty-test : (xs : List ℕ) → xs ≡ [] → (length xs == 0) ≡ true
empty-test xs e = rw e refl
