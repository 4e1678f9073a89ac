-- Where the files hold a source and code that does what it says, no command ends with the status of a difference.
use Rattle.std.proofs.Common.{◌≡◌, ◌≢◌, ℕ, inl, inr, List, [], ◌∷◌, Option, Some, sym, ◌∙◌, subst}
use Rattle.nv_outside.specs.Holding.{Holding}
use Rattle.nv_ast.specs.Sizes.{main_words}
use Rattle.nv_ast.specs.Tree.{ProgramTree}
use Rattle.nv_meaning.specs.Meaning.{source}
use Rattle.nova_compile.specs.Sources.{IsTypedSource}
use Rattle.nova_compile.proofs.OneSource.{source-program}
use Rattle.uc_isa.specs.Agrees.{Agrees}
use Rattle.uc_isa.specs.Code.{CodeView}
use Rattle.uc_object.specs.Object.{IsObject, code_of}
use Rattle.uc_object.specs.declared.object.Object.{Object}
use Rattle.uc_object.proofs.Spelling.{object-one}
use Rattle.novac_words.specs.Command.{Command, Trace, IfCommand, IfTrace}
use Rattle.novac_words.specs.Lines.{IsUncaused, refusal_status}
use Rattle.novac_words.specs.declared.refusal.Refusal.{Refusal}
use Rattle.novac_words.specs.declared.refusal.Refusal.TheVariants.{TraceParams, TraceWrite}
use Rattle.novac_words.specs.declared.status.Status.{Status}
use Rattle.novac_words.specs.declared.status.Status.TheVariants as status
use Rattle.novac_machine.specs.inner.Outcomes.{IsOutcome}
use Rattle.novac_commands.specs.Answers.{Refuses, IsPrinted}
use Rattle.novac_commands.specs.Loading.{Input, AreRead, StopsAt, IsUnread, inputs_of}
use Rattle.novac_commands.specs.Tracing.{HoldAgreeing, TraceRefuses, ObjectRefuses, CodeRefuses}
use Rattle.novac_commands.proofs.Agreeing.{never-other}
use Rattle.novac_commands.proofs.OneAnswer.{makes-outcome}

-- the refusals of a difference
abbrev IsDifference : Refusal → Type 0
IsDifference (TraceParams code main) = Unit {0}
IsDifference (TraceWrite n) = Unit {0}
IsDifference _ = ⊥

difference : (e : Refusal) → refusal_status e ≡ status.Disagrees → IsDifference e
difference (TraceParams code main) h = tt
difference (TraceWrite n) h = tt
difference _ h = cc

uncaused-never : (e : Refusal) → IsDifference e → IsUncaused e → ⊥
uncaused-never (TraceParams code main) d h = h
uncaused-never (TraceWrite n) d h = h
uncaused-never _ d h = d

unread-never : (T : Type 0) (held : Holding) (R : List ℕ → Type 0) (e : Refusal) (is : List Input) → IsDifference e → StopsAt T held is (IsUnread T held R e) → ⊥
unread-never T held R (TraceParams code main) [] d h = h
unread-never T held R (TraceParams code main) (i ∷ is) d (inl h) = h
unread-never T held R (TraceParams code main) (i ∷ is) d (inr h) = unread-never T held R (TraceParams code main) is d h.2
unread-never T held R (TraceWrite n) [] d h = h
unread-never T held R (TraceWrite n) (i ∷ is) d (inl h) = h
unread-never T held R (TraceWrite n) (i ∷ is) d (inr h) = unread-never T held R (TraceWrite n) is d h.2
unread-never T held R _ is d h = absurd d

-- of code that agrees
other-never : (program : ProgramTree) (c : CodeView) (m : List ℕ) (steps calls : ℕ) (e : Refusal) → Agrees (main_words program) (source program) c → IsDifference e → CodeRefuses program m steps calls c e → ⊥
other-never program c m steps calls (TraceParams p q) agrees d (inl h) = h
other-never program c m steps calls (TraceParams p q) agrees d (inr h) = h.3.2 (h.3.0 ∙ agrees.parameters ∙ sym h.3.1)
other-never program c m steps calls (TraceWrite i) agrees d (inl h) = h
other-never program c m steps calls (TraceWrite i) agrees d (inr h) = never-other program c steps calls m h.1 h.0 i agrees h.2 h.3.1
other-never program c m steps calls _ agrees d h = absurd d

lint-never : (program : ProgramTree) (b m : List ℕ) (steps calls : ℕ) (o : Object) (e : Refusal) → IsObject b o → Agrees (main_words program) (source program) (code_of o) → IsDifference e → ObjectRefuses program b m steps calls e → ⊥
lint-never program b m steps calls o (TraceParams p q) is agrees d (inl (inl h)) = h
lint-never program b m steps calls o (TraceParams p q) is agrees d (inl (inr h)) = h.2
lint-never program b m steps calls o (TraceWrite i) is agrees d (inl (inl h)) = h
lint-never program b m steps calls o (TraceWrite i) is agrees d (inl (inr h)) = h.2
lint-never program b m steps calls o e is agrees d (inr h) =
    let same = object-one b o h.0 is h.1 in
    other-never program (code_of h.0) m steps calls e (subst (λ (x : Object). Agrees (main_words program) (source program) (code_of x)) same agrees) d h.2.1
lint-never program b m steps calls o _ is agrees d (inl h) = absurd d

source-never : (t b m : List ℕ) (steps calls : ℕ) (e : Refusal) → (program : ProgramTree) (o : Object) → IsTypedSource t program → IsObject b o → Agrees (main_words program) (source program) (code_of o) → IsDifference e → TraceRefuses t b m steps calls e → ⊥
source-never t b m steps calls (TraceParams p q) program o typed is agrees d (inl h) = h
source-never t b m steps calls (TraceWrite i) program o typed is agrees d (inl h) = h
source-never t b m steps calls e program o typed is agrees d (inr h) =
    let same = source-program t program h.0 typed.is_source h.1.is_source in
    lint-never h.0 b m steps calls o e is (subst (λ (x : ProgramTree). Agrees (main_words x) (source x) (code_of o)) same agrees) d h.2
source-never t b m steps calls _ program o typed is agrees d h = absurd d

some-once : (x y : List ℕ) → Some x ≡ Some y → x ≡ y
some-once x y e = cc

contents-never : (T : Type 0) (held : Holding) (s o m : List ℕ) (steps calls : ℕ) (line : Option ℕ) (contents : List (List ℕ)) (e : Refusal) → T → HoldAgreeing held s o → IsDifference e
    → AreRead T held (inputs_of (Trace s o m steps calls line)) contents → Refuses (Trace s o m steps calls line) contents e → ⊥
contents-never T held s o m steps calls line (t ∷ b ∷ g ∷ []) e tells h d read why =
    let text : h.0 ≡ t = some-once h.0 t (sym h.1 ∙ read.0.here tells) in
    let bytes : h.2 ≡ b = some-once h.2 b (sym h.3 ∙ read.1.0.here tells) in
    source-never t b g steps calls e h.4.0 h.4.2.0
    (subst (λ (x : List ℕ). IsTypedSource x h.4.0) text h.4.1) (subst (λ (x : List ℕ). IsObject x h.4.2.0) bytes h.4.2.1) h.4.2.2 d why
contents-never T held s o m steps calls line _ e tells h d read why = absurd why

pub agreed : (T S : Type 0) (old new : Holding) (R : List ℕ → Type 0) (c : Option Command) (r : Status) (before after : List ℕ) → T
    → (r ≢ status.WriteFault → IfCommand c (λ x. IsPrinted T old new R x r S before after)) → IfTrace c (λ s o. HoldAgreeing old s o → r ≢ status.Disagrees)
agreed T S old new R (Some (Trace s o m steps calls line)) r before after tells answered = λ holds is.
    let ended = answered (λ w. let e : status.Disagrees ≡ status.WriteFault = sym is ∙ w in cc) in
    elim ended.1 [
      | inl done ↦ absurd (subst IsOutcome is (makes-outcome (Trace s o m steps calls line) done.contents r done.files ended.0 done.makes))
      | inr refused ↦
          (let d : IsDifference refused.why = difference refused.why (sym refused.status_is ∙ is) in
          elim refused.cause [
            | inl uncaused ↦ uncaused-never refused.why d uncaused
            | inr caused ↦ elim caused [
              | inl unread ↦ unread-never T old R refused.why (inputs_of (Trace s o m steps calls line)) d unread
              | inr why ↦ contents-never T old s o m steps calls line why.0 refused.why tells holds d why.1 why.2
            ]
          ])
    ]
agreed T S old new R _ r before after tells answered = tt
