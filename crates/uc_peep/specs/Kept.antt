-- Code from which places are taken out.
use Rattle.std.specs.Prelude.{ℕ, zero, suc, Bool, true, false, List, [], ◌∷◌, slice_index_or}
use Rattle.uc_isa.specs.declared.instruction.Instr.{Instr}
use Rattle.uc_isa.specs.Relocated.{relocated}

-- the place is to be taken out
abbrev pub is_gone : List Bool → ℕ → Bool
is_gone gone x = slice_index_or gone x false

-- how many of the first x places are kept: the place that x has then
abbrev pub kept_before : List Bool → ℕ → ℕ
kept_before [] x = zero
kept_before (g ∷ gone) zero = zero
kept_before (true ∷ gone) (suc x) = kept_before gone x
kept_before (false ∷ gone) (suc x) = suc (kept_before gone x)

-- what is kept
abbrev pub kept_of : List Bool → List Instr → List Instr
kept_of [] code = []
kept_of (g ∷ gone) [] = []
kept_of (true ∷ gone) (i ∷ code) = kept_of gone code
kept_of (false ∷ gone) (i ∷ code) = i ∷ kept_of gone code

-- what is kept, its branches led to new places
abbrev pub compacted : (ℕ → ℕ) → List Bool → List Instr → List Instr
compacted f [] code = []
compacted f (g ∷ gone) [] = []
compacted f (true ∷ gone) (i ∷ code) = compacted f gone code
compacted f (false ∷ gone) (i ∷ code) = relocated f i ∷ compacted f gone code
