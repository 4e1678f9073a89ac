-- Contexts one by one, and what their turns come to.
use Rattle.std.proofs.Common.{◌≡◌, ℕ, zero, suc, ◌+◌, ◌<◌, ◌⊎◌, inl, inr, List, [], ◌∷◌, ◌++◌, Some, drop, get_or, length, refl, ap, sym, ◌∙◌, subst, append_assoc, arith}
use Rattle.std.specs.Prelude.{slice_get}
use Rattle.nv_lines.specs.Line.{text_of}
use Rattle.nv_lines.proofs.SplitLaws.{text_of-append}
use Rattle.nv_base.specs.Memories.{Memories}
use Rattle.nv_base.specs.declared.outcome.Outcome.{Outcome}
use Rattle.nv_base.specs.declared.outcome.Outcome.TheVariants.{Ended, Raised, Fault, Going}
use Rattle.nv_memtext.specs.MemoryText.{Gives}
use Rattle.uc_schedule.specs.ScheduleText.{Gives as GivesTurns}
use Rattle.uc_contexts.specs.declared.state.Context.{Context}
use Rattle.uc_contexts.specs.Alone.{AreDisjoint, all_alone, lone_runs}
use Rattle.uc_contexts.specs.Footprints.{Isolated}
use Rattle.uc_contexts.specs.Turns.{System, entries, scheduled, started}
use Rattle.uc_isa.specs.Code.{CodeView}
use Rattle.uc_isa.specs.Lawful.{IsLawful}
use Rattle.uc_object.specs.Object.{IsObject, code_of}
use Rattle.uc_object.specs.declared.object.Object.{Object}
use Rattle.novac_words.specs.Lines.{IsUncaused}
use Rattle.novac_words.specs.Status.{outcome_status}
use Rattle.novac_words.specs.declared.refusal.Refusal.{Refusal}
use Rattle.novac_words.specs.declared.status.Status.{Status}
use Rattle.novac_machine.specs.Machine.{IsMemoryRefusedFor}
use Rattle.novac_machine.specs.Scheduled.{ContextsRefuse, HaveTakenTurns, IsScheduled, IsScheduleRefusedFor, TellsShared, context_lines, contexts_status, disjoint_line, one_context, system_text, unless_ended}

-- ---- a context at a place

pub at-place : (xs : List Context) (i : ℕ) → i < length xs → (x : Context) × (slice_get xs i ≡ Some x) × (drop i xs ≡ x ∷ drop (suc i) xs)
at-place [] i l = absurd (omega (arith, l))
at-place (x ∷ xs) zero l = (x, refl, refl)
at-place (x ∷ xs) (suc i) l = at-place xs i (omega (arith, l))

-- its lines, written
pub lines-next : (xs : List Context) (i : ℕ) (out out' all : List ℕ) → i < length xs → ((x : Context) → slice_get xs i ≡ Some x → out' ≡ out ++ text_of (one_context i x))
    → out ++ text_of (context_lines i (drop i xs)) ≡ all → out' ++ text_of (context_lines (i + 1) (drop (i + 1) xs)) ≡ all
lines-next xs i out out' all there written h =
    let p = at-place xs i there in
    let x = p.0 in
    let more : i + 1 ≡ suc i = omega arith in
    let rest : List (List ℕ) = context_lines (suc i) (drop (suc i) xs) in
    ap (λ (n : ℕ). out' ++ text_of (context_lines n (drop n xs))) more
    ∙ ap (λ (l : List ℕ). l ++ text_of rest) (written x p.1)
    ∙ append_assoc out (text_of (one_context i x)) (text_of rest)
    ∙ ap (λ (l : List ℕ). out ++ l) (sym (text_of-append (one_context i x) rest))
    ∙ ap (λ (l : List Context). out ++ text_of (context_lines i l)) (sym p.2)
    ∙ h

-- its status, where it ended, and where it didn't
unless-other : (o : Outcome) (s : Status) → ((ws : List ℕ) → o ≡ Ended ws → ⊥) → unless_ended o s ≡ outcome_status o
unless-other (Ended ws) s not = absurd (not ws refl)
unless-other (Raised k ws) s not = refl
unless-other (Fault m a) s not = refl
unless-other Going s not = refl

pub status-next : (xs : List Context) (i : ℕ) (o : Outcome) (ws : List ℕ) → i < length xs → ((x : Context) → slice_get xs i ≡ Some x → o ≡ x.outcome) → o ≡ Ended ws → contexts_status (drop i xs) ≡ contexts_status xs
    → contexts_status (drop (i + 1) xs) ≡ contexts_status xs
status-next xs i o ws there is ended h =
    let p = at-place xs i there in
    let more : i + 1 ≡ suc i = omega arith in
    ap (λ (n : ℕ). contexts_status (drop n xs)) more
    ∙ ap (λ (y : Outcome). unless_ended y (contexts_status (drop (suc i) xs))) (sym ended ∙ is p.0 p.1)
    ∙ ap contexts_status (sym p.2)
    ∙ h

pub status-here : (xs : List Context) (i : ℕ) (o : Outcome) → i < length xs → ((x : Context) → slice_get xs i ≡ Some x → o ≡ x.outcome) → ((ws : List ℕ) → o ≡ Ended ws → ⊥) → contexts_status (drop i xs) ≡ contexts_status xs
    → outcome_status o ≡ contexts_status xs
status-here xs i o there is other h =
    let p = at-place xs i there in
    sym (unless-other o (contexts_status (drop (suc i) xs)) other)
    ∙ ap (λ (y : Outcome). unless_ended y (contexts_status (drop (suc i) xs))) (is p.0 p.1)
    ∙ ap contexts_status (sym p.2)
    ∙ h

-- ---- turns

told-disjoint : (c : CodeView) (p : Memories) (runs : List Isolated) (line : List ℕ) → TellsShared c p runs line → line ≡ disjoint_line → AreDisjoint c p runs
told-disjoint c p runs line (inl h) e = h.0
told-disjoint c p runs line (inr h) e =
    let first : 115 ≡ 100 = ap (λ (l : List ℕ). get_or l 0 0) (sym h.3 ∙ e) in
    absurd (omega (arith, first))

pub have-taken : (c : CodeView) (p p' : Memories) (args : List (List ℕ)) (schedule : List ℕ) (xs xs' : List Context) (status : Status) (text line : List ℕ) → xs ≡ started args
    → record { contexts = xs'; packet = p' } ≡ scheduled c.list schedule (record { contexts = xs; packet = p })
    → ((a : List (List ℕ)) → xs ≡ started a → AreDisjoint c p (lone_runs schedule a) → record { contexts = xs'; packet = p' } ≡ all_alone c p (lone_runs schedule a))
    → TellsShared c p (lone_runs schedule args) line → status ≡ contexts_status xs' → text ≡ system_text (record { contexts = xs'; packet = p' }) line → HaveTakenTurns c p args schedule status text
have-taken c p p' args schedule xs xs' status text line made turned alone tells ends prints =
    let last : System = scheduled c.list schedule (record { contexts = started args; packet = p }) in
    let now : System = record { contexts = xs'; packet = p' } in
    let same : now ≡ last = turned ∙ ap (λ (l : List Context). scheduled c.list schedule (record { contexts = l; packet = p })) made in
    record {
      line = line;
      tells = tells;
      ends = ends ∙ ap (λ (s : System). contexts_status s.contexts) same;
      prints = prints ∙ ap (λ (s : System). system_text s line) same;
      alone = λ e. sym same ∙ alone args made (told-disjoint c p (lone_runs schedule args) line tells e);
    }

-- ---- of an object

pub is-scheduled : (bytes memory turns : List ℕ) (o : Object) (c : CodeView) (packet : Memories) (arguments : List ℕ) (others args : List (List ℕ)) (pairs : List (ℕ × ℕ)) (status : Status) (text : List ℕ)
    → IsObject bytes o → c ≡ code_of o → IsLawful c.list → Gives c.params memory packet arguments → GivesTurns c.params turns others pairs → args ≡ arguments ∷ others
    → HaveTakenTurns c packet args (entries pairs) status text → IsScheduled bytes memory turns status text
is-scheduled bytes memory turns o c packet arguments others args pairs status text is same lawful given schedule all taken = record {
  o = o;
  object = is;
  lawful = subst (λ (d : CodeView). IsLawful d.list) same lawful;
  packet = packet;
  arguments = arguments;
  given = subst (λ (d : CodeView). Gives d.params memory packet arguments) same given;
  others = others;
  pairs = pairs;
  schedule = subst (λ (d : CodeView). GivesTurns d.params turns others pairs) same schedule;
  taken = subst (λ (l : List (List ℕ)). HaveTakenTurns (code_of o) packet l (entries pairs) status text) all (subst (λ (d : CodeView). HaveTakenTurns d packet args (entries pairs) status text) same taken);
}

pub memory-refuses : (bytes memory turns : List ℕ) (o : Object) (c : CodeView) (e : Refusal) → IsObject bytes o → c ≡ code_of o → IsLawful c.list → IsUncaused e ⊎ IsMemoryRefusedFor c.params memory e
    → IsUncaused e ⊎ ContextsRefuse bytes memory turns e
memory-refuses bytes memory turns o c e is same lawful (inl u) = inl u
memory-refuses bytes memory turns o c e is same lawful (inr h) =
    inr (inl (inr (o, is, (subst (λ (d : CodeView). IsLawful d.list) same lawful, subst (λ (d : CodeView). IsMemoryRefusedFor d.params memory e) same h))))

pub schedule-refuses : (bytes memory turns : List ℕ) (o : Object) (c : CodeView) (packet : Memories) (arguments : List ℕ) (e : Refusal) → IsObject bytes o → c ≡ code_of o → IsLawful c.list → Gives c.params memory packet arguments
    → IsUncaused e ⊎ IsScheduleRefusedFor c.params turns e → IsUncaused e ⊎ ContextsRefuse bytes memory turns e
schedule-refuses bytes memory turns o c packet arguments e is same lawful given (inl u) = inl u
schedule-refuses bytes memory turns o c packet arguments e is same lawful given (inr h) =
    inr (inr (
      o,
      is,
      (
        subst (λ (d : CodeView). IsLawful d.list) same lawful,
        (packet, arguments, subst (λ (d : CodeView). Gives d.params memory packet arguments) same given),
        subst (λ (d : CodeView). IsScheduleRefusedFor d.params turns e) same h,
      ),
    ))
