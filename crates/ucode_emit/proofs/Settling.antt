-- Instructions whose branches name points become the code once points have their places.
use Rattle.std.proofs.Common.{◌≡◌, ℕ, ◌<◌, ◌≤◌, List, [], ◌∷◌, map, refl, ap, ◌∙◌, arith}
use Rattle.uc_isa.specs.declared.instruction.Instr.{Instr}
use Rattle.uc_isa.specs.declared.instruction.Instr.TheVariants as instr
use Rattle.ucode_emit.specs.Pieces.{Item, Moved, Plain, Branch, move_instr, instr_of}
use Rattle.ucode_emit.specs.inner.DraftItems.{draft, settled}
use Rattle.ucode_emit.proofs.LawfulItems.{KeepsOwn, move_own, IsGood, AreGood}

-- an instruction that is no branch stays
own_settled : (slots : ℕ) (places : List ℕ) (i : Instr) → KeepsOwn slots i → settled places i ≡ i
own_settled slots places (instr.Alu d op x y) h = refl
own_settled slots places (instr.Un d op x) h = refl
own_settled slots places (instr.Immed d v s) h = refl
own_settled slots places (instr.Br c point) h = let z : point < 0 = h.target 0 in absurd (omega (arith, z))
own_settled slots places (instr.Read m r n x off) h = refl
own_settled slots places (instr.Write m r n x off) h = refl
own_settled slots places (instr.Halt k n) h = refl

item_settled : (slots : ℕ) (places : List ℕ) (it : Item) → slots ≤ 128 → IsGood slots it → settled places (draft it) ≡ instr_of places it
item_settled slots places (Moved from at) n h = own_settled slots places (move_instr from at) (move_own slots from at n h)
item_settled slots places (Plain i) n h = own_settled slots places i h.0
item_settled slots places (Branch c point) n h = refl

pub settles : (slots : ℕ) (places : List ℕ) (is : List Item) → slots ≤ 128 → AreGood slots is → map (settled places) (map draft is) ≡ map (instr_of places) is
settles slots places [] n h = refl
settles slots places (it ∷ is) n h = ap (λ i. i ∷ map (settled places) (map draft is)) (item_settled slots places it n h.0) ∙ ap (λ l. instr_of places it ∷ l) (settles slots places is n h.1)
