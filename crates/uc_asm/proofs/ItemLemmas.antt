-- What the reader of a line answers.
use Rattle.std.proofs.Common.{◌≡◌, ◌≢◌, ℕ, ◌<◌, ◌^◌, List, [], ◌∷◌, ◌++◌, sym, ◌∙◌, codes, Option, None, Some, IfSome, IfNone}
use Rattle.nv_lines.specs.Line.{parts}
use Rattle.uc_isa.specs.declared.instruction.Cond.{Cond}
use Rattle.uc_isa.specs.declared.instruction.Instr.{Instr}
use Rattle.uc_isa.specs.declared.instruction.Instr.TheVariants.{Br}
use Rattle.uc_asm.specs.Words.{operands, words, condition_name, InRange}
use Rattle.uc_asm.specs.Items.{Item as TheItem, IsName, IsItem, item_line}
use Rattle.uc_asm.specs.inner.Seen.{seen, IsBranch}
use Rattle.uc_asm.specs.declared.item.Item.{Item}
use Rattle.uc_asm.specs.declared.item.Item.TheVariants.{Label, Plain, Jump}
use Rattle.uc_asm.proofs.LineLemmas.{from_parts, only-branch, no-item}

pub branch-some : (r : Option Item) (line : List ℕ) (ps : List (List ℕ)) → parts line ≡ codes "br" ∷ ps → IfSome r (λ item. IsBranch (codes "br" ∷ ps) (seen item))
    → IfSome r (λ item. IsItem (seen item) × (line ≡ item_line (seen item)))
branch-some None line ps e h = tt
branch-some (Some (Label name)) line ps e h = let two = h.1 in cc
branch-some (Some (Plain i)) line ps e h = (h.0, from_parts line (words i) (e ∙ h.1))
branch-some (Some (Jump cond name)) line ps e h = (h.0, from_parts line (codes "br" ∷ condition_name cond ∷ name.now ∷ []) (e ∙ h.1))

pub branch-none : (r : Option Item) (line : List ℕ) (ps : List (List ℕ)) → parts line ≡ codes "br" ∷ ps → ((name : List ℕ) → IsName name → line ≢ name ++ codes ":")
    → IfNone r ((cond : Cond) (place : ℕ) → place < 2 ^ 32 → ps ≢ operands (Br cond place)) → IfNone r ((cond : Cond) (name : List ℕ) → IsName name → ps ≢ condition_name cond ∷ name ∷ [])
    → IfNone r ((item : TheItem) → IsItem item → line ≢ item_line item)
branch-none None line ps e l p n = only-branch line ps e l p n
branch-none (Some item) line ps e l p n = tt

-- a line of no kind
pub other-none : (line kind : List ℕ) (ps : List (List ℕ)) → parts line ≡ kind ∷ ps → kind ≢ codes "br" → ((name : List ℕ) → IsName name → line ≢ name ++ codes ":")
    → ((i : Instr) → InRange i → kind ≢ codes "br" → kind ∷ ps ≢ words i) → (item : TheItem) → IsItem item → line ≢ item_line item
other-none line kind ps e other l h = no-item line l (λ i r f. h i r other (sym e ∙ f)) (λ cond name r f. other (first (sym e ∙ f)))
  where
    first : {a b : List ℕ} {us vs : List (List ℕ)} → a ∷ us ≡ b ∷ vs → a ≡ b
    first e = cc
