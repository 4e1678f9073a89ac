-- Forms of one program.
use Rattle.std.proofs.Common.{◌≡◌, ◌≤◌, ◌<◌, ◌+◌, ◌^◌, ◌∙◌, refl, ap, sym, subst, ℕ, true, List, [], ◌∷◌, length, Option, inl, inr, lit≤, arith}
use Rattle.std.specs.Prelude.{filter, filter_map}
use Rattle.std.specs.List.{cons_option}
use Rattle.nv_ast.specs.Laws.{sum}
use Rattle.nv_ast.specs.Sizes.{main_words}
use Rattle.nv_ast.specs.Tree.{ProgramTree}
use Rattle.nv_base.specs.Meanings.{AreArguments, KeepsOutcomes, Same}
use Rattle.nv_base.specs.Memories.{Memories}
use Rattle.nv_base.specs.declared.term.Mem.TheVariants.{Sram}
use Rattle.nv_base.proofs.Same.{same-sym, same-trans}
use Rattle.nv_meaning.specs.Meaning.{source}
use Rattle.ssu_ir.specs.Meaning.{ssu_meaning, ssu_params}
use Rattle.ssu_ir.specs.Tree.{Label}
use Rattle.bank_prog_form.specs.Columns.{columns}
use Rattle.bank_prog_form.specs.Program.{rows}
use Rattle.ucode_emit.specs.Operations.{Operation}
use Rattle.ucode_emit.specs.Operations.Operation.{Binary, Branching, Ending, Immediate, Reading, Unary, Writing}
use Rattle.uc_isa.specs.Agrees.{IsStart}
use Rattle.uc_isa.specs.Code.{CodeView}
use Rattle.uc_isa.specs.Engine.{engine}
use Rattle.uc_isa.specs.declared.instruction.Cond.{Cond}
use Rattle.uc_isa.specs.declared.instruction.Cond.TheVariants.{Always, C, NC, NZ, Z}
use Rattle.uc_peep_facts.specs.Turned.{asks, opposite}
use Rattle.nova_back.specs.LeftOut.{IsComputation, LeavesOut}
use Rattle.nova_back.specs.LeftOut.LeavesOut.{Empty, InTurn, Kept, Needless, Turned}
use Rattle.nova_compile.specs.Forms.{banks_bound, HasLargeBanks, HasSmallBanks, IsCodeFor, IsFormOf}
use Rattle.novac_commands.proofs.Complete.{compiles}
use Rattle.laws_commands.specs.Forms.{acts, jumps, lasting, NoOtherEnd, OneMeaning, OnlyComputationsAreLeftOut, SumBounds}

sum_banks : banks_bound sum ≡ 718848
sum_banks = refl

pub sum_bounds : SumBounds
sum_bounds = record { form = refl; banks = refl; fit = λ slots. inl (subst (λ n. n ≤ 2 ^ 26) (sym sum_banks) (lit≤ tt)) }

-- ---- one meaning

forms : (program : ProgramTree) (a b : List Label) → IsFormOf program a → IsFormOf program b → KeepsOutcomes (ssu_params a) (ssu_params b) (ssu_meaning a) (ssu_meaning b)
forms program a b h k = record {
  arguments = sym h.kept.arguments ∙ k.kept.arguments;
  same = λ args p words sizes.
      let started : AreArguments (main_words program) args = subst (λ n. AreArguments n args) (sym h.kept.arguments) words in
      same-trans (ssu_meaning a args p) (source program args p) (ssu_meaning b args p)
      (same-sym (source program args p) (ssu_meaning a args p) (h.kept.same args p started sizes)) (k.kept.same args p started sizes);
}

codes : (program : ProgramTree) (c d : CodeView) (args : List ℕ) (p : Memories) (base : ℕ) → IsCodeFor program c → IsCodeFor program d → IsStart (main_words program) args p base → Same (engine c args base p) (engine d args base p)
codes program c d args p base h k start =
    same-trans (engine c args base p) (source program args p) (engine d args base p)
    (same-sym (source program args p) (engine c args base p) (h.agrees.same args p base start)) (k.agrees.same args p base start)

pub one_meaning : OneMeaning
one_meaning = record { forms = forms; codes = codes }

-- ---- no other end

over : (n b m : ℕ) → n ≤ b → b ≤ m → m < n → ⊥
over n b m h k l = omega (arith, h, k, l)

over_part : (k n m : ℕ) → n ≡ k → k ≤ m → m < n → ⊥
over_part k n m e h l = omega (arith, e, h, l)

none_large : (p : ProgramTree) (slots n : ℕ) → HasSmallBanks p slots → HasLargeBanks p slots n → ⊥
none_large p slots n (inl b) h = elim h.large [
  | inl many ↦ over n (banks_bound p) (2 ^ 26) h.bounded b many.1
  | inr many ↦ over n (banks_bound p) (2 ^ 26) h.bounded b many.1.1
]
none_large p slots n (inr f) h =
    let both = f h.form h.is_form in
    elim h.large [
      | inl many ↦ over_part (length (columns h.form)) n (2 ^ 26) many.0 both.0 many.1
      | inr many ↦ over_part (length (rows h.form slots)) n (2 ^ 26) many.1.0 both.1 many.1.1
    ]

pub no_other_end : NoOtherEnd
no_other_end = record { large = none_large; done = λ held name slots store weights status can ends. compiles held name [] [] slots 1 store weights [] status can ends }

-- ---- what is left out

one_more : (o : Operation) (all rest : List Operation) → filter acts all ≡ filter acts rest → filter acts (o ∷ all) ≡ filter acts (o ∷ rest)
one_more Immediate all rest e = e
one_more (Unary f) all rest e = e
one_more (Binary o) all rest e = e
one_more (Reading m n) all rest e = ap (λ (xs : List Operation). Reading m n ∷ xs) e
one_more (Writing m n) all rest e = ap (λ (xs : List Operation). Writing m n ∷ xs) e
one_more (Branching x) all rest e = ap (λ (xs : List Operation). Branching x ∷ xs) e
one_more (Ending k n) all rest e = ap (λ (xs : List Operation). Ending k n ∷ xs) e

opposite_lasts : (c : Cond) → asks c ≡ true → lasting (Branching (opposite c)) ≡ lasting (Branching c)
opposite_lasts Always h = cc
opposite_lasts Z h = refl
opposite_lasts NZ h = refl
opposite_lasts C h = refl
opposite_lasts NC h = refl

kept : (all rest : List Operation) → LeavesOut all rest → filter_map lasting all ≡ filter_map lasting rest
kept a b Empty = refl
kept a b (Needless Immediate all rest c h) = kept all rest h
kept a b (Needless (Unary f) all rest c h) = kept all rest h
kept a b (Needless (Binary o) all rest c h) = kept all rest h
kept a b (Needless (Reading m n) all rest c h) = absurd c
kept a b (Needless (Writing m n) all rest c h) = absurd c
kept a b (Needless (Branching x) all rest c h) = absurd c
kept a b (Needless (Ending k n) all rest c h) = absurd c
kept a b (Kept o all rest h) = ap (cons_option (lasting o)) (kept all rest h)
kept a b (Turned c all rest asked h) = ap (cons_option (lasting (Branching c))) (kept all rest h) ∙ ap (λ (o : Option Operation). cons_option o (filter_map lasting rest)) (sym (opposite_lasts c asked))
kept a b (InTurn first second third h g) = kept first second h ∙ kept second third g

fewer : (all rest : List Operation) → LeavesOut all rest → length rest ≤ length all
fewer a b Empty = omega arith
fewer a b (Needless o all rest c h) = let n = fewer all rest h in omega (arith, n)
fewer a b (Kept o all rest h) = let n = fewer all rest h in omega (arith, n)
fewer a b (Turned c all rest asked h) = let n = fewer all rest h in omega (arith, n)
fewer a b (InTurn first second third h g) = let n = fewer first second h in let m = fewer second third g in omega (arith, n, m)

no_read : LeavesOut (Reading Sram 1 ∷ Ending 0 1 ∷ []) (Ending 0 1 ∷ []) → ⊥
no_read h = let e : Reading Sram 1 ∷ Ending 0 1 ∷ [] ≡ Ending 0 1 ∷ [] = kept (Reading Sram 1 ∷ Ending 0 1 ∷ []) (Ending 0 1 ∷ []) h in cc

-- ---- branches where no jump is left out

abbrev one_jump : Operation → ℕ
one_jump o = jumps (o ∷ [])

jumps_more : (o : Operation) (os : List Operation) → jumps (o ∷ os) ≡ one_jump o + jumps os
jumps_more Immediate os = omega arith
jumps_more (Unary f) os = omega arith
jumps_more (Binary o) os = omega arith
jumps_more (Reading m n) os = omega arith
jumps_more (Writing m n) os = omega arith
jumps_more (Branching Always) os = omega arith
jumps_more (Branching Z) os = omega arith
jumps_more (Branching NZ) os = omega arith
jumps_more (Branching C) os = omega arith
jumps_more (Branching NC) os = omega arith
jumps_more (Ending k n) os = omega arith

asked_jumps : (c : Cond) (os : List Operation) → asks c ≡ true → (jumps (Branching c ∷ os) ≡ jumps os) × (jumps (Branching (opposite c) ∷ os) ≡ jumps os)
asked_jumps Always os h = cc
asked_jumps Z os h = (refl, refl)
asked_jumps NZ os h = (refl, refl)
asked_jumps C os h = (refl, refl)
asked_jumps NC os h = (refl, refl)

computes_no_jump : (o : Operation) (os : List Operation) → IsComputation o → jumps (o ∷ os) ≡ jumps os
computes_no_jump Immediate os c = refl
computes_no_jump (Unary f) os c = refl
computes_no_jump (Binary o) os c = refl
computes_no_jump (Reading m n) os c = absurd c
computes_no_jump (Writing m n) os c = absurd c
computes_no_jump (Branching x) os c = absurd c
computes_no_jump (Ending k n) os c = absurd c

fewer_jumps : (all rest : List Operation) → LeavesOut all rest → jumps rest ≤ jumps all
fewer_jumps a b Empty = omega arith
fewer_jumps a b (Needless o all rest c h) = let n = fewer_jumps all rest h in let e = computes_no_jump o all c in omega (arith, n, e)
fewer_jumps a b (Kept o all rest h) = let n = fewer_jumps all rest h in let e = jumps_more o all in let d = jumps_more o rest in omega (arith, n, e, d)
fewer_jumps a b (Turned c all rest asked h) =
    let n = fewer_jumps all rest h in
    let e = (asked_jumps c (Branching Always ∷ all) asked).0 in
    let d = (asked_jumps c rest asked).1 in
    omega (arith, n, e, d)
fewer_jumps a b (InTurn first second third h g) = let n = fewer_jumps first second h in let m = fewer_jumps second third g in omega (arith, n, m)

acts_not : (o : Operation) (os : List Operation) → IsComputation o → filter acts (o ∷ os) ≡ filter acts os
acts_not Immediate os c = refl
acts_not (Unary f) os c = refl
acts_not (Binary o) os c = refl
acts_not (Reading m n) os c = absurd c
acts_not (Writing m n) os c = absurd c
acts_not (Branching x) os c = absurd c
acts_not (Ending k n) os c = absurd c

branches : (all rest : List Operation) → LeavesOut all rest → jumps all ≡ jumps rest → filter acts all ≡ filter acts rest
branches a b Empty e = refl
branches a b (Needless o all rest c h) e = acts_not o all c ∙ branches all rest h (sym (computes_no_jump o all c) ∙ e)
branches a b (Kept o all rest h) e = one_more o all rest (branches all rest h (let d = jumps_more o all in let f = jumps_more o rest in omega (arith, d, e, f)))
branches a b (Turned c all rest asked h) e =
    let n = fewer_jumps all rest h in
    let d = (asked_jumps c (Branching Always ∷ all) asked).0 in
    let f = (asked_jumps c rest asked).1 in
    absurd (omega (arith, n, d, e, f))
branches a b (InTurn first second third h g) e =
    let n = fewer_jumps first second h in
    let m = fewer_jumps second third g in
    branches first second h (omega (arith, n, m, e)) ∙ branches second third g (omega (arith, n, m, e))

pub only_computations : OnlyComputationsAreLeftOut
only_computations = record {
  kept = kept;
  branches = branches;
  fewer = fewer;
  immediate = Needless Immediate (Ending 0 1 ∷ []) (Ending 0 1 ∷ []) tt (Kept (Ending 0 1) [] [] Empty);
  read = no_read;
  turned = Turned Z (Ending 0 1 ∷ []) (Ending 0 1 ∷ []) refl (Kept (Ending 0 1) [] [] Empty);
}
