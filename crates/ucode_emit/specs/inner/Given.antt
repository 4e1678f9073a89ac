-- The piece of a node by what is given at its point: the serves of its operands, the registers of its pass, and the homes of values.
use Rattle.std.specs.Prelude.{ℕ, zero, suc, ◌/◌, ◌^◌, ◌<◌, ◌≤◌, ⊤, List, [], ◌∷◌, ◌++◌, length, take, drop, Option, if◌then◌else◌}
use Rattle.nv_base.specs.declared.term.Bin.TheVariants.{Sub}
use Rattle.uc_isa.specs.declared.instruction.Instr.{Instr}
use Rattle.uc_isa.specs.declared.instruction.Instr.TheVariants as instr
use Rattle.uc_isa.specs.declared.instruction.Dst.{Dst}
use Rattle.uc_isa.specs.declared.instruction.Dst.TheVariants as dst
use Rattle.uc_isa.specs.declared.instruction.Cond.TheVariants.{Always}
use Rattle.uc_isa.specs.Registers.{failing}
use Rattle.ssu_ir.specs.Tree.{Step, Lit, Una, Bin, Clone, Read, Write, Last, Jump, Halt, Node, Does, Forks, Ends}
use Rattle.place_plan.specs.declared.place.Place.{Place}
use Rattle.place_plan.specs.declared.place.Place.TheVariants.{S, Slot}
use Rattle.place_plan.specs.declared.place.Serve.{Serve}
use Rattle.place_plan.specs.Plan.{Plan, home}
use Rattle.place_plan.specs.Fits.{is_slot}
use Rattle.ucode_emit.specs.Moves.{Move}
use Rattle.ucode_emit.specs.declared.emit_context.EmitContext.{EmitContext}
use Rattle.ucode_emit.specs.inner.Machine.{IsReadable, IsWritable}
use Rattle.ucode_emit.specs.inner.Layers.{IsAddress}
use Rattle.ucode_emit.specs.inner.DraftItems.{fetches, each_fetch, word_fetch}
use Rattle.ucode_emit.specs.inner.EmitContext.{CanAll}
use Rattle.ucode_emit.specs.Pieces.{Item, Plain, Branch, moved, named, all_copied, single_moves, un_op, source, target, address_of, shift_of}

-- ---- operands

-- where the operand of a number is wanted
abbrev pub at_of : List Serve → ℕ → Place
at_of [] i = Slot 0
at_of (s ∷ ss) zero = s.at
at_of (s ∷ ss) (suc i) = at_of ss i

-- the moves before a write: the address, then the words
abbrev pub write_moves : Option ℕ → List Serve → List Move
write_moves l ss = fetches l (take 1 ss) ++ each_fetch (word_fetch l) (drop 1 ss)

-- ---- results

-- where a result is put whose home is this, and how it gets on to a slot
abbrev pub result_at : Option ℕ → Place → Place
result_at s d = if is_slot d then S (named s) else d

abbrev pub slot_moves : Option ℕ → Place → List Move
slot_moves s d = if is_slot d then (S (named s), d) ∷ [] else []

-- what brings a result on to its homes
abbrev pub result_moves : Plan → Option ℕ → ℕ → List Move
result_moves p s x = slot_moves s (home p x).defined ++ all_copied s (home p x).defined (home p x).copied

-- the copies of values that stand where they are defined
abbrev pub each_copied : Plan → Option ℕ → List ℕ → List Move
each_copied p s [] = []
each_copied p s (x ∷ xs) = all_copied s (home p x).defined (home p x).copied ++ each_copied p s xs

abbrev pub result_items : Plan → Option ℕ → ℕ → (Dst → Instr) → List Item
result_items p s x op = Plain (op (target (result_at s (home p x).defined))) ∷ moved (result_moves p s x)

abbrev pub CanResult : Plan → Option ℕ → ℕ → Type 0
CanResult p s x = IsWritable (result_at s (home p x).defined) × CanAll (result_moves p s x)

-- ---- pieces

abbrev pub given_step : Plan → EmitContext → Step → List Item
given_step p emit_context (Lit x v) = result_items p emit_context.pass.s x (λ d. instr.Immed d (v / 2 ^ shift_of v) (shift_of v))
given_step p emit_context (Una x op y) = moved (fetches emit_context.pass.l emit_context.serves.now) ++ result_items p emit_context.pass.s x (λ d. instr.Un d (un_op op) (source (at_of emit_context.serves.now 0)))
given_step p emit_context (Bin x op y z) =
    moved (fetches emit_context.pass.l emit_context.serves.now) ++ result_items p emit_context.pass.s x (λ d. instr.Alu d op (source (at_of emit_context.serves.now 0)) (source (at_of emit_context.serves.now 1)))
given_step p emit_context (Clone xs y) = []
given_step p emit_context (Read m xs y) =
    moved (fetches emit_context.pass.l emit_context.serves.now) ++ Plain (instr.Read m emit_context.first (length xs) (address_of (at_of emit_context.serves.now 0)) 0) ∷ moved (each_copied p emit_context.pass.s xs)
given_step p emit_context (Write m y xs) = moved (write_moves emit_context.pass.l emit_context.serves.now) ++ Plain (instr.Write m emit_context.first (length xs) (address_of (at_of emit_context.serves.now 0)) 0) ∷ []

abbrev pub given_last : EmitContext → Last → List Item
given_last emit_context (Jump l xs) = moved (single_moves emit_context.pass.l emit_context.singles.now) ++ Branch Always emit_context.to ∷ []
given_last emit_context (Halt e xs) = moved (single_moves emit_context.pass.l emit_context.singles.now) ++ Plain (instr.Halt e (length xs)) ∷ []

abbrev pub given_node : Plan → EmitContext → Node → List Item
given_node p emit_context (Does s) = given_step p emit_context s
given_node p emit_context (Forks c x y) =
    moved (fetches emit_context.pass.l emit_context.serves.now)
    ++ Plain (instr.Alu dst.Nowhere Sub (source (at_of emit_context.serves.now 0)) (source (at_of emit_context.serves.now 1))) ∷ Branch (failing c) emit_context.to ∷ []
given_node p emit_context (Ends l) = given_last emit_context l

abbrev pub CanGivenStep : Plan → EmitContext → Step → Type 0
CanGivenStep p emit_context (Lit x v) = (v / 2 ^ shift_of v < 2 ^ 16) × CanResult p emit_context.pass.s x
CanGivenStep p emit_context (Una x op y) = CanAll (fetches emit_context.pass.l emit_context.serves.now) × IsReadable (at_of emit_context.serves.now 0) × CanResult p emit_context.pass.s x
CanGivenStep p emit_context (Bin x op y z) =
    CanAll (fetches emit_context.pass.l emit_context.serves.now) × IsReadable (at_of emit_context.serves.now 0) × IsReadable (at_of emit_context.serves.now 1) × CanResult p emit_context.pass.s x
CanGivenStep p emit_context (Clone xs y) = ⊤
CanGivenStep p emit_context (Read m xs y) =
    CanAll (fetches emit_context.pass.l emit_context.serves.now) × IsAddress (at_of emit_context.serves.now 0) × (length xs ≤ 8) × CanAll (each_copied p emit_context.pass.s xs)
CanGivenStep p emit_context (Write m y xs) = CanAll (write_moves emit_context.pass.l emit_context.serves.now) × IsAddress (at_of emit_context.serves.now 0) × (length xs ≤ 8)

abbrev pub CanGivenLast : EmitContext → Last → Type 0
CanGivenLast emit_context (Jump l xs) = CanAll (single_moves emit_context.pass.l emit_context.singles.now)
CanGivenLast emit_context (Halt e xs) = CanAll (single_moves emit_context.pass.l emit_context.singles.now) × (length xs ≤ 8)

abbrev pub CanGiven : Plan → EmitContext → Node → Type 0
CanGiven p emit_context (Does s) = CanGivenStep p emit_context s
CanGiven p emit_context (Forks c x y) = CanAll (fetches emit_context.pass.l emit_context.serves.now) × IsReadable (at_of emit_context.serves.now 0) × IsReadable (at_of emit_context.serves.now 1)
CanGiven p emit_context (Ends l) = CanGivenLast emit_context l
