-- The program of a made source is typed, and means a word, with which its code ends.
use Rattle.std.proofs.Common.{◌≡◌, ◌⊎◌, ℕ, ◌≤◌, ◌<◌, ◌^◌, List, [], ◌∷◌, inl, inr, length, ap, sym, ◌∙◌, subst, arith}
use Rattle.std.specs.Prelude.{slice_index}
use Rattle.std.proofs.lemmas.List.Elements.{All-nil, All-cons}
use Rattle.nv_ast.specs.Sizes.{main_words, room}
use Rattle.nv_ast.specs.Tree.{ProgramTree}
use Rattle.nv_ast.specs.TypedView.{typed_program}
use Rattle.nv_base.specs.Memories.{Memories, HasSizes}
use Rattle.nv_base.specs.Meanings.{FullOutcome, IsOver}
use Rattle.nv_base.specs.declared.outcome.Outcome.{Outcome}
use Rattle.nv_base.specs.declared.outcome.Outcome.TheVariants.{Ended}
use Rattle.nv_text.specs.Limits.{source_limit}
use Rattle.nv_meaning.specs.Meaning.{source}
use Rattle.uc_isa.specs.Agrees.{IsStart}
use Rattle.uc_isa.specs.Code.{CodeView}
use Rattle.uc_isa.specs.Engine.{engine, run, start}
use Rattle.uc_isa.specs.declared.engine.Engine.{Engine}
use Rattle.zo_cert.specs.declared.report.Report.{Report}
use Rattle.zo_cert.specs.declared.report.Verdict.{Verdict}
use Rattle.nova_compile.specs.Sources.{IsTypedSource}
use Rattle.nova_compile.proofs.OneSource.{source-program}
use Rattle.nv_generate.specs.Laws.{HasProgram}
use Rattle.nv_generate.specs.Made.{made}
use Rattle.nv_generate.proofs.Programs.{each_has_program}
use Rattle.nova_compile.specs.Forms.{IsCodeFor}
use Rattle.nova_back.specs.Causes.{report_cost}
use Rattle.novac_commands.specs.Generating.{GenRefuses, IsGenerated, MeansWord, generated_text}
use Rattle.novac_commands.specs.Compiling.{CompileRefuses, IsUnfit}
use Rattle.novac_words.specs.Limits.{slots_limit, budget_default, store_limit}
use Rattle.novac_words.specs.Lines.{IsUncaused}
use Rattle.novac_machine.specs.Machine.{spill_base}
use Rattle.nova_compile.specs.Programs.{HasTyped}
use Rattle.novac_words.specs.declared.refusal.Refusal.{Refusal}
use Rattle.nova_compile.specs.declared.build.Compiled.{Compiled}
use Rattle.nova_compile.specs.inner.Parts.{IsBuilt, IsWithoutBanks}
use Rattle.novac_commands.specs.inner.Generated.{HasRoom, HasWord, AreWord}
use Rattle.novac_commands.proofs.OneSource.{source-good}

made-typed : (seed size : ℕ) (h : HasProgram seed size) → IsTypedSource (made seed size) h.program
made-typed seed size h = record { is_source = record { reads = h.reads; low = h.low }; accepted = h.accepted }

-- it isn't too long
pub made-short : (seed size : ℕ) (bytes : List ℕ) → 1 ≤ size → size ≤ 500 → bytes ≡ made seed size → length bytes ≤ source_limit
made-short seed size bytes some few e = subst (λ (x : List ℕ). length x ≤ source_limit) (sym e) (each_has_program seed size some few).short

-- it is refused only where its program isn't compiled
pub made-refused : (seed size : ℕ) (bytes : List ℕ) (e : Refusal) → 1 ≤ size → size ≤ 500 → bytes ≡ made seed size → IsUncaused e ⊎ CompileRefuses bytes slots_limit [] budget_default store_limit e → IsUncaused e ⊎ GenRefuses seed size e
made-refused seed size bytes e some few is (inl u) = inl u
made-refused seed size bytes e some few is (inr (inl h)) =
    let p = each_has_program seed size some few in
    absurd (source-good bytes e p.program (subst (λ (x : List ℕ). IsTypedSource x p.program) (sym is) (made-typed seed size p)) h)
made-refused seed size bytes e some few is (inr (inr h)) = inr (subst (λ (x : List ℕ). HasTyped x (λ program. IsUnfit program slots_limit [] budget_default store_limit e)) is h)

-- its program has little room
narrow-enough : (r : ℕ) → r ≤ 29 → r ≤ 128
narrow-enough r h = omega arith

pub made-room : (seed size : ℕ) (bytes : List ℕ) → 1 ≤ size → size ≤ 500 → bytes ≡ made seed size → HasRoom bytes
made-room seed size bytes some few is = λ t h.
    let p = each_has_program seed size some few in
    let typed : IsTypedSource (made seed size) t = subst (λ (x : List ℕ). IsTypedSource x t) is h in
    let same = source-program (made seed size) p.program t (made-typed seed size p).is_source typed.is_source in
    narrow-enough (room t) (subst (λ (x : ProgramTree). room x ≤ 29) same p.narrow)

-- so banks are found for it
pub no-room : (bytes : List ℕ) (budget : ℕ) (verdict : Verdict) (r : Report) → HasRoom bytes → IsWithoutBanks bytes slots_limit [] budget verdict r → ⊥
no-room bytes budget verdict r narrow h =
    let few : slots_limit < room h.program = h.without.few_slots in
    let most : room h.program ≤ 128 = narrow h.program h.is_source in
    omega arith

-- what is told of its code
pub generated-by : (seed size : ℕ) (bytes line : List ℕ) (t : Compiled) (long instructions word : ℕ) → bytes ≡ made seed size → IsBuilt bytes slots_limit [] budget_default store_limit t → long ≡ length bytes → instructions ≡ length t.built.code.list
    → MeansWord (typed_program t.typed) word → line ≡ generated_text seed size long instructions t.built.report.verdict (report_cost t.built.report) word → IsGenerated seed size line
generated-by seed size bytes line t long instructions word is h counted number means told = record {
  program = typed_program t.typed;
  is_source = subst (λ (x : List ℕ). IsTypedSource x (typed_program t.typed)) is h.is_source;
  c = t.built.code;
  code = h.code;
  short = h.short;
  brief = h.brief;
  r = t.built.report;
  starts = t.built.starts.items;
  banks = h.banks;
  word = word;
  means = means;
  told = told ∙ ap (λ (n : ℕ). generated_text seed size n instructions t.built.report.verdict (report_cost t.built.report) word) (counted ∙ ap (λ (x : List ℕ). length x) is)
      ∙ ap (λ (n : ℕ). generated_text seed size (length (made seed size)) n t.built.report.verdict (report_cost t.built.report) word) number;
}

-- its program means a word
pub made-word : (seed size : ℕ) (bytes : List ℕ) (t : ProgramTree) → 1 ≤ size → size ≤ 500 → bytes ≡ made seed size → IsTypedSource bytes t → HasWord t
made-word seed size bytes t some few is h =
    let p = each_has_program seed size some few in
    let typed : IsTypedSource (made seed size) t = subst (λ (x : List ℕ). IsTypedSource x t) is h in
    let same = source-program (made seed size) p.program t (made-typed seed size p).is_source typed.is_source in
    let word : HasWord p.program = record { two = p.two; word = p.word; means = λ (m : Memories) (calls : ℕ). ap (λ (f : FullOutcome). f.outcome) (p.ends m calls) } in
    subst HasWord same word

-- with which its code ends
one-two : (params : ℕ) (p : Memories) → params ≡ 2 → HasSizes p → IsStart params (1 ∷ 2 ∷ []) p spill_base
one-two params p two sizes = record {
  words = (sym two, All-cons (λ (w : ℕ). w < 2 ^ 32) 1 (2 ∷ []) (omega arith) (All-cons (λ (w : ℕ). w < 2 ^ 32) 2 [] (omega arith) (All-nil (λ (w : ℕ). w < 2 ^ 32))));
  memories = sizes;
  spills = (omega arith, omega arith);
}

ended-words : (a b : List ℕ) → Ended a ≡ Ended b → a ≡ b
ended-words a b e = cc

pub code-word : (t : ProgramTree) (c : CodeView) (p : Memories) (m : ℕ) (words : List ℕ) → HasWord t → IsCodeFor t c → HasSizes p → (engine c (1 ∷ 2 ∷ []) spill_base p m).outcome ≡ Ended words → AreWord t words
code-word t c p m words h code sizes ends =
    let both = code.agrees.same (1 ∷ 2 ∷ []) p spill_base (one-two (main_words t) p h.two sizes) in
    let from = both.ends_only m (subst IsOver (sym ends) tt) in
    let alike : (source t (1 ∷ 2 ∷ []) p from.0).outcome ≡ (engine c (1 ∷ 2 ∷ []) spill_base p m).outcome = ap (λ (f : FullOutcome). f.outcome) from.1 in
    (h.word, ended-words words (h.word ∷ []) (sym ends ∙ sym alike ∙ h.means p from.0), h.means)

pub code-ends : (t : ProgramTree) (c : CodeView) (e : Engine) (p : Memories) (m : ℕ) (o : Outcome) (words : List ℕ) → HasWord t → IsCodeFor t c → HasSizes p → e ≡ start (1 ∷ 2 ∷ []) spill_base → o ≡ (run c.list m e p []).outcome → o ≡ Ended words → AreWord t words
code-ends t c e p m o words h code sizes begins is ends =
    code-word t c p m words h code sizes (ap (λ (x : Engine). (run c.list m x p []).outcome) (sym begins) ∙ sym is ∙ ends)

pub source-word : (t : ProgramTree) (p : Memories) (calls : ℕ) (words : List ℕ) → HasWord t → (source t (1 ∷ 2 ∷ []) p calls).outcome ≡ Ended words → AreWord t words
source-word t p calls words h ends = (h.word, ended-words words (h.word ∷ []) (sym ends ∙ h.means p calls), h.means)

-- the first of these words is the one
pub word-there : (t : ProgramTree) (words read : List ℕ) → AreWord t words → read ≡ words → 0 < length read
word-there t words read h e = subst (λ (x : List ℕ). 0 < length x) (sym (e ∙ h.1)) (omega arith)

pub word-first : (t : ProgramTree) (words read : List ℕ) → AreWord t words → read ≡ words → MeansWord t (slice_index read 0)
word-first t words read h e = subst (λ (x : List ℕ). MeansWord t (slice_index x 0)) (sym (e ∙ h.1)) h.2
