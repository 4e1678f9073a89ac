-- Rows: each has eight bytes, and begins no other.
use Rattle.std.proofs.Common.{◌≡◌, ℕ, List, [], ◌∷◌, refl, ap, sym, ◌∙◌, subst, take, drop, length, arith}
use Rattle.std.proofs.lemmas.List.{take_at, drop_at}
use Rattle.uc_isa.specs.declared.instruction.Instr.{Instr}
use Rattle.uc_isa.specs.declared.instruction.Instr.TheVariants.{Alu}
use Rattle.uc_isa.specs.declared.instruction.Src.TheVariants as src
use Rattle.uc_isa.specs.declared.instruction.Dst.TheVariants as dst
use Rattle.nv_base.specs.declared.term.Bin.TheVariants.{Add}
use Rattle.uc_object.specs.Rows.{IsRow}
use Rattle.uc_object.proofs.Fitting.{row-fits}
use Rattle.uc_object.proofs.Single.{row-one}
use Rattle.uc_object.proofs.Together.{IsPrefixCode}

pub row-code : IsPrefixCode IsRow
row-code i j a b s t h k e =
    let first : length a ≡ 8 = (row-fits i a h).0 in
    let second : length b ≡ 8 = (row-fits j b k).0 in
    let row : a ≡ b = sym (take_at a s 8 first) ∙ ap (take 8) e ∙ take_at b t 8 second in
    let rest : s ≡ t = sym (drop_at a s 8 first) ∙ ap (drop 8) e ∙ drop_at b t 8 second in
    (row-one i j b (subst (IsRow i) row h) k, rest)

-- a row of zeros
abbrev pub zeros : List ℕ
zeros = 0 ∷ 0 ∷ 0 ∷ 0 ∷ 0 ∷ 0 ∷ 0 ∷ 0 ∷ []

abbrev pub zero_instruction : Instr
zero_instruction = Alu (dst.A 0) Add (src.A 0) (src.A 0)

pub zeros-row : IsRow zero_instruction zeros
zeros-row = (0, 0, 0, (omega arith, refl), (omega arith, refl), (omega arith, refl), refl)
