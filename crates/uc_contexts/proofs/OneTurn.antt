-- One turn of a context among others is its turn alone, where no address that one run writes is read or written by another.
use Rattle.std.proofs.Common.{◌≡◌, ℕ, suc, ◌<◌, List, [], ◌++◌, All, Some, None, refl, ap, sym, subst, ◌∙◌, arith}
use Rattle.std.specs.Prelude.{slice_get, slice_set}
use Rattle.std.specs.Option.{option_map}
use Rattle.std.proofs.lemmas.List.{append-nil, map-set}
use Rattle.std.proofs.lemmas.List.Elements.{All-nil, All-cons, filter-append}
use Rattle.std.proofs.lemmas.Option.{slice_get-map}
use Rattle.nv_base.specs.declared.outcome.Write.{Write as WriteEvent}
use Rattle.nv_base.specs.declared.outcome.Outcome.{Outcome}
use Rattle.nv_base.specs.declared.outcome.Outcome.TheVariants as outcome
use Rattle.nv_base.specs.Log.{empty_log, noted_all}
use Rattle.nv_base.specs.Memories.{Memories}
use Rattle.nv_base.specs.Meanings.{FullOutcome, IsOver, left_by, source_writes, is_source_write}
use Rattle.nv_base.proofs.LogLemmas.{noted-append}
use Rattle.uc_isa.specs.Code.{CodeView}
use Rattle.uc_isa.specs.Lawful.{IsLawful}
use Rattle.uc_isa.specs.Engine.{start}
use Rattle.uc_isa.specs.Step.{Next, step}
use Rattle.uc_isa.specs.declared.engine.Engine.{Engine}
use Rattle.uc_isa.specs.declared.engine.Stepped.{Stepped}
use Rattle.uc_isa.specs.declared.engine.Stepped.TheVariants.{Went, Wrote, Halted, Fault}
use Rattle.uc_isa.proofs.Follows.{StepLeaves, step-leaves}
use Rattle.uc_contexts.specs.declared.state.Context.{Context}
use Rattle.uc_contexts.specs.Turns.{Turn, System, turn_at, moved, entered, enter, outcome_of, written, kept_writes}
use Rattle.uc_contexts.specs.Footprints.{Isolated, moment, lone_outcome}
use Rattle.uc_contexts.specs.Alone.{all_writes, all_alone, left_alone}
use Rattle.uc_contexts.proofs.Apart.{WriteApart}
use Rattle.uc_contexts.proofs.Depends.{StepAlike, step-alike}
use Rattle.uc_contexts.proofs.Isolation.{OthersSeparate, longer, reads-alike, same-sizes, write-apart}
use Rattle.uc_contexts.proofs.OneMore.{after-last, run-last, run-same, run-stays}
use Rattle.uc_contexts.proofs.Others.{lone_writes, more-writes}
use Rattle.uc_contexts.proofs.Turning.{turn-over}

-- a context with this engine, and with the outcome and the writes of a run
abbrev context_of : Engine → FullOutcome → Context
context_of e f = record { engine = e; outcome = f.outcome; log = noted_all (empty_log kept_writes) (source_writes f.writes) }

-- what a step leaves are the memories after its write
leaves-written : (s : Stepped) (p q : Memories) → StepLeaves s p q → q ≡ left_by (written s) p
leaves-written Went p q h = h
leaves-written (Wrote w) p q h = h
leaves-written (Halted k words) p q h = h
leaves-written (Fault m at) p q h = h

all-written : (s : Stepped) (P : WriteEvent → Type 0) → ((w : WriteEvent) → s ≡ Wrote w → P w) → All P (written s)
all-written Went P h = All-nil P
all-written (Wrote w) P h = All-cons P w [] (h w refl) (All-nil P)
all-written (Halted k words) P h = All-nil P
all-written (Fault m at) P h = All-nil P

logged-more : (ws vs : List WriteEvent) → noted_all (noted_all (empty_log kept_writes) (source_writes ws)) (source_writes vs) ≡ noted_all (empty_log kept_writes) (source_writes (ws ++ vs))
logged-more ws vs = sym (noted-append (source_writes ws) (source_writes vs) (empty_log kept_writes)) ∙ ap (noted_all (empty_log kept_writes)) (sym (filter-append (λ w. is_source_write w.mem w.at) ws vs))

-- ---- a run that is over

over-alone : (c : CodeView) (p : Memories) (x : Isolated) → IsOver (lone_outcome c p x).outcome → (left_alone c p (longer x) ≡ left_alone c p x) × (lone_writes c p (longer x) ≡ lone_writes c p x ++ [])
over-alone c p x over =
    let e : Engine = start x.args x.base in
    let same : lone_outcome c p (longer x) ≡ lone_outcome c p x = run-same c.list x.steps e p over in
    let stays : (moment c p (longer x) (suc x.steps)).engine ≡ (moment c p x x.steps).engine = run-stays c.list x.steps e p [] over in (
      ap (λ g. context_of g (lone_outcome c p (longer x))) stays ∙ ap (context_of (moment c p x x.steps).engine) same,
      ap (λ (f : FullOutcome). f.writes) same ∙ sym (append-nil (lone_writes c p x)),
    )

turn-rests : (c : CodeView) (p : Memories) (runs : List Isolated) (i : ℕ) (x : Isolated) → slice_get runs i ≡ Some x → IsOver (lone_outcome c p x).outcome
    → turn_at (lone_outcome c p x).outcome c.list (left_alone c p x) (left_by (all_writes c p runs) p) ≡ record { context = left_alone c p (longer x); packet = left_by (all_writes c p (slice_set runs i (longer x))) p }
turn-rests c p runs i x is over =
    let now : Memories = left_by (all_writes c p runs) p in
    let same = over-alone c p x over in
    let unwritten : left_by (all_writes c p (slice_set runs i (longer x))) p ≡ now = more-writes c p runs i x (longer x) [] p is same.1 (λ j y ne g. All-nil (λ w. All (WriteApart w) (lone_writes c p y))) in
    turn-over (lone_outcome c p x).outcome c.list (left_alone c p x) now over
    ∙ ap (λ z. record { context = z; packet = now }) (sym same.0)
    ∙ ap (λ z. record { context = left_alone c p (longer x); packet = z }) (sym unwritten)

-- ---- a run that is going

turn-goes : (c : CodeView) (p : Memories) (runs : List Isolated) (i : ℕ) (x : Isolated) → IsLawful c.list → slice_get runs i ≡ Some x → OthersSeparate c p runs i x → (lone_outcome c p x).outcome ≡ outcome.Going
    → moved (step c.list (moment c p x x.steps).engine (left_by (all_writes c p runs) p)) (left_alone c p x) ≡ record { context = left_alone c p (longer x); packet = left_by (all_writes c p (slice_set runs i (longer x))) p }
turn-goes c p runs i x lawful is d going =
    let now : Memories = left_by (all_writes c p runs) p in
    let a : Next = moment c p x x.steps in
    let here : Next = step c.list a.engine now in
    let alone : Next = step c.list a.engine a.packet in
    let alike : StepAlike here alone = step-alike (slice_get c.list a.engine.place) a.engine now a.packet (same-sizes c p runs x going) (reads-alike (slice_get c.list a.engine.place) c p runs i x lawful is d going refl) in
    let more : lone_outcome c p (longer x) ≡ record { outcome = outcome_of alone.stepped; packet = alone.packet; writes = lone_writes c p x ++ written alone.stepped } = run-last c.list x.steps (start x.args x.base) p going in
    let engine : (moment c p (longer x) (suc x.steps)).engine ≡ alone.engine = (after-last c.list x.steps (start x.args x.base) p).0 in
    let context : (moved here (left_alone c p x)).context ≡ left_alone c p (longer x) =
    ap (λ s. record { engine = here.engine; outcome = outcome_of s; log = noted_all (left_alone c p x).log (source_writes (written s)) }) alike.0
    ∙ ap (λ e. record { engine = e; outcome = outcome_of alone.stepped; log = noted_all (left_alone c p x).log (source_writes (written alone.stepped)) }) (alike.1 ∙ sym engine)
    ∙ ap (λ l. record { engine = (moment c p (longer x) (suc x.steps)).engine; outcome = outcome_of alone.stepped; log = l }) (logged-more (lone_writes c p x) (written alone.stepped))
    ∙ sym (ap (context_of (moment c p (longer x) (suc x.steps)).engine) more) in
    let lt : x.steps < suc x.steps = omega arith in
    let packet : here.packet ≡ left_by (all_writes c p (slice_set runs i (longer x))) p =
    leaves-written here.stepped now here.packet (step-leaves (slice_get c.list a.engine.place) a.engine now)
    ∙ ap (λ s. left_by (written s) now) alike.0
    ∙ sym (more-writes c p runs i x (longer x) (written alone.stepped) p is (ap (λ (f : FullOutcome). f.writes) more)
    (λ j y ne g. all-written alone.stepped (λ w. All (WriteApart w) (lone_writes c p y)) (λ w wrote. write-apart c p (longer x) y lawful (d j y ne g).0 x.steps w lt wrote))) in
    ap (λ z. record { context = z; packet = here.packet }) context ∙ ap (λ z. record { context = left_alone c p (longer x); packet = z }) packet

-- ---- either

turn-alone : (o : Outcome) (c : CodeView) (p : Memories) (runs : List Isolated) (i : ℕ) (x : Isolated) → IsLawful c.list → slice_get runs i ≡ Some x → OthersSeparate c p runs i x → (lone_outcome c p x).outcome ≡ o
    → turn_at o c.list (left_alone c p x) (left_by (all_writes c p runs) p) ≡ record { context = left_alone c p (longer x); packet = left_by (all_writes c p (slice_set runs i (longer x))) p }
turn-alone outcome.Going c p runs i x lawful is d e = turn-goes c p runs i x lawful is d e
turn-alone (outcome.Ended ws) c p runs i x lawful is d e =
    ap (λ o. turn_at o c.list (left_alone c p x) (left_by (all_writes c p runs) p)) (sym e) ∙ turn-rests c p runs i x is (subst IsOver (sym e) tt)
turn-alone (outcome.Raised k ws) c p runs i x lawful is d e =
    ap (λ o. turn_at o c.list (left_alone c p x) (left_by (all_writes c p runs) p)) (sym e) ∙ turn-rests c p runs i x is (subst IsOver (sym e) tt)
turn-alone (outcome.Fault m at) c p runs i x lawful is d e =
    ap (λ o. turn_at o c.list (left_alone c p x) (left_by (all_writes c p runs) p)) (sym e) ∙ turn-rests c p runs i x is (subst IsOver (sym e) tt)

-- an entry of a context takes its run alone one step further
pub enter-alone : (c : CodeView) (p : Memories) (runs : List Isolated) (i : ℕ) (x : Isolated) → IsLawful c.list → slice_get runs i ≡ Some x → OthersSeparate c p runs i x
    → enter c.list i (all_alone c p runs) ≡ all_alone c p (slice_set runs i (longer x))
enter-alone c p runs i x lawful is d =
    let s : System = all_alone c p runs in
    let there : slice_get s.contexts i ≡ Some (left_alone c p x) = slice_get-map (left_alone c p) runs i ∙ ap (option_map (left_alone c p)) is in
    let t = turn-alone (lone_outcome c p x).outcome c p runs i x lawful is d refl in
    ap (λ o. entered c.list i o s) there
    ∙ ap (λ (t : Turn). record { contexts = slice_set s.contexts i t.context; packet = t.packet }) t
    ∙ ap (λ l. record { contexts = l; packet = left_by (all_writes c p (slice_set runs i (longer x))) p }) (sym (map-set (left_alone c p) runs i (longer x)))

-- an entry of no context does nothing
pub enter-none : (c : CodeView) (p : Memories) (runs : List Isolated) (i : ℕ) → slice_get runs i ≡ None → enter c.list i (all_alone c p runs) ≡ all_alone c p runs
enter-none c p runs i is =
    let s : System = all_alone c p runs in
    let there : slice_get s.contexts i ≡ None = slice_get-map (left_alone c p) runs i ∙ ap (option_map (left_alone c p)) is in
    ap (λ o. entered c.list i o s) there
