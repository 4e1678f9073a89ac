-- One turn, where no address that one run writes is read or written by another.
use Rattle.std.proofs.Common.{◌≡◌, ℕ, suc, ◌+◌, ◌≤◌, ◌<◌, ◌⊎◌, inl, inr, List, [], Bool, true, false, All, Some, None, length, take, drop, refl, ap, sym, subst, ◌∙◌, if◌then◌else◌, nat_le, arith}
use Rattle.std.specs.Prelude.{Option, slice_get}
use Rattle.std.proofs.lemmas.List.Elements.{All-nil}
use Rattle.nv_base.specs.declared.term.Mem.{Mem}
use Rattle.nv_base.specs.declared.outcome.Write.{Write as WriteEvent}
use Rattle.nv_base.specs.declared.outcome.Outcome.TheVariants as outcome
use Rattle.nv_base.specs.Memories.{Memories, AreApart, fetched, words_at, first_word}
use Rattle.nv_base.specs.Meanings.{left_by}
use Rattle.uc_isa.specs.Code.{CodeView}
use Rattle.uc_isa.specs.Lawful.{IsLawful}
use Rattle.uc_isa.specs.Engine.{start}
use Rattle.uc_isa.specs.Step.{Next, step_at, address, after_read}
use Rattle.uc_isa.specs.declared.instruction.Gpr.{Gpr}
use Rattle.uc_isa.specs.declared.instruction.Instr.{Instr}
use Rattle.uc_isa.specs.declared.instruction.Instr.TheVariants.{Alu, Un, Immed, Br, Read, Write, Halt}
use Rattle.uc_isa.specs.declared.engine.Stepped.{Stepped}
use Rattle.uc_isa.specs.declared.engine.Stepped.TheVariants.{Went, Wrote}
use Rattle.uc_isa.proofs.Follows.{engine-follows}
use Rattle.uc_contexts.specs.Footprints.{Isolated, Reads, Writes, Touches, IsTouched, to_read, was_read, was_written, moment, step_of, lone_outcome}
use Rattle.uc_contexts.specs.Alone.{all_writes}
use Rattle.uc_contexts.proofs.Apart.{ApartFrom, ListsApart, WriteApart, stretches-apart, left-size}
use Rattle.uc_contexts.proofs.Depends.{ReadsAlike, HaveSameSizes}
use Rattle.uc_contexts.proofs.OneMore.{run-packet}
use Rattle.uc_contexts.proofs.Others.{lone_writes, own-found}
use Rattle.uc_contexts.proofs.Writing.{start-banks, write-some, run-writes}

-- no address that the first run writes is read or written by the second
abbrev pub LeavesAlone : CodeView → Memories → Isolated → Isolated → Type 0
LeavesAlone c p x y = (m : Mem) (a : ℕ) → Writes c p x m a → ¬ (Reads c p y m a ⊎ Writes c p y m a)

-- the steps of a run: a write of this step
written-there : (c : CodeView) (p : Memories) (x : Isolated) (k : ℕ) (w : WriteEvent) (m : Mem) (a : ℕ) → k < x.steps → step_of c p x k ≡ Wrote w → w.mem ≡ m → Touches w.mem w.at (length w.words) a → Writes c p x m a
written-there c p x k w m a lt is same t = (k, lt, subst (λ (s : Stepped). IsTouched (was_written s) m a) (sym is) (same, t))

some-words : (c : CodeView) (p : Memories) (x : Isolated) (k : ℕ) (w : WriteEvent) → IsLawful c.list → step_of c p x k ≡ Wrote w → 1 ≤ length w.words
some-words c p x k w lawful is = write-some c.list k (start x.args x.base) p w lawful (start-banks x.args x.base) is

-- what holds of the writes of a run's steps, holds of all that it wrote
pub each-write : (c : CodeView) (p : Memories) (x : Isolated) (P : WriteEvent → Type 0) → ((k : ℕ) (w : WriteEvent) → k < x.steps → step_of c p x k ≡ Wrote w → P w) → All P (lone_writes c p x)
each-write c p x P h = run-writes c.list x.steps (start x.args x.base) p [] P (All-nil P) h

-- a write of one run is apart from all of the other's
pub write-apart : (c : CodeView) (p : Memories) (x y : Isolated) → IsLawful c.list → LeavesAlone c p x y → (k : ℕ) (w : WriteEvent) → k < x.steps → step_of c p x k ≡ Wrote w → All (WriteApart w) (lone_writes c p y)
write-apart c p x y lawful d k w lt is = each-write c p y (WriteApart w) (λ l v lt' is'.
    stretches-apart w.mem w.at (length w.words) v.mem v.at (length v.words) (some-words c p x k w lawful is) (some-words c p y l v lawful is')
    (λ a same t u. d w.mem a (written-there c p x k w w.mem a lt is refl t) (inr (written-there c p y l v w.mem a lt' is' (sym same) u))))

pub writes-apart : (c : CodeView) (p : Memories) (x y : Isolated) → IsLawful c.list → LeavesAlone c p x y → ListsApart (lone_writes c p x) (lone_writes c p y)
writes-apart c p x y lawful d = each-write c p x (λ w. All (WriteApart w) (lone_writes c p y)) (write-apart c p x y lawful d)

-- an access that the second run reads is apart from all writes of the first
read-apart : (c : CodeView) (p : Memories) (x y : Isolated) (m : Mem) (at n : ℕ) → IsLawful c.list → LeavesAlone c p y x → 1 ≤ n → ((a : ℕ) → Touches m at n a → Reads c p x m a) → ApartFrom m at n (lone_writes c p y)
read-apart c p x y m at n lawful d some h = each-write c p y (λ v. AreApart m at n v.mem v.at (length v.words)) (λ l v lt is.
    stretches-apart m at n v.mem v.at (length v.words) some (some-words c p y l v lawful is)
    (λ a same t u. d m a (written-there c p y l v m a lt is (sym same) u) (inl (h a t))))

-- the run with one step more
abbrev pub longer : Isolated → Isolated
longer x = record { args = x.args; base = x.base; steps = suc x.steps }

-- each of two runs leaves the other alone
abbrev pub AreSeparate : CodeView → Memories → Isolated → Isolated → Type 0
AreSeparate c p x y = LeavesAlone c p x y × LeavesAlone c p y x

pub shorter : (c : CodeView) (p : Memories) (x y : Isolated) → AreSeparate c p (longer x) y → AreSeparate c p x y
shorter c p x y d = (
  λ m a w. d.0 m a (let lt : w.0 < suc x.steps = omega (arith, w.1) in (w.0, lt, w.2)),
  λ m a w h. d.1 m a w (elim h [
    | inl r ↦ inl (let lt : r.0 < suc x.steps = omega (arith, r.1) in (r.0, lt, r.2))
    | inr r ↦ inr (let lt : r.0 < suc x.steps = omega (arith, r.1) in (r.0, lt, r.2))
  ]),
)

-- the memories after a run that is going are the first ones after its writes
pub behind-run : (c : CodeView) (p : Memories) (x : Isolated) → (lone_outcome c p x).outcome ≡ outcome.Going → (moment c p x x.steps).packet ≡ left_by (lone_writes c p x) p
behind-run c p x going = sym (run-packet c.list x.steps (start x.args x.base) p [] going) ∙ engine-follows c x.args x.base p x.steps

-- the other runs are separate from this one, taken one step further
abbrev pub OthersSeparate : CodeView → Memories → List Isolated → ℕ → Isolated → Type 0
OthersSeparate c p runs i x = (j : ℕ) (y : Isolated) → ¬ (i ≡ j) → slice_get runs j ≡ Some y → AreSeparate c p (longer x) y

pub same-sizes : (c : CodeView) (p : Memories) (runs : List Isolated) (x : Isolated) → (lone_outcome c p x).outcome ≡ outcome.Going → HaveSameSizes (left_by (all_writes c p runs) p) (moment c p x x.steps).packet
same-sizes c p runs x going = λ m. left-size m (all_writes c p runs) p ∙ sym (left-size m (lone_writes c p x) p) ∙ ap (λ z. length (words_at m z)) (sym (behind-run c p x going))

-- a read of a run after all others' writes finds what it finds alone
read-found : (b : Bool) (c : CodeView) (p : Memories) (runs : List Isolated) (i : ℕ) (x : Isolated) (m : Mem) (at n : ℕ) → IsLawful c.list → slice_get runs i ≡ Some x → OthersSeparate c p runs i x → (lone_outcome c p x).outcome ≡ outcome.Going
    → 1 ≤ n → let q = (moment c p x x.steps).packet in nat_le (first_word m at + n) (length (words_at m q)) ≡ b
    → ((ws : List ℕ) → fetched m at n q ≡ Some ws → (a : ℕ) → Touches m at n a → Reads c p (longer x) m a)
    → fetched m at n (left_by (all_writes c p runs) p) ≡ fetched m at n q
read-found true c p runs i x m at n lawful is d going some e h =
    let q : Memories = (moment c p x x.steps).packet in
    let ws : List ℕ = take n (drop (first_word m at) (words_at m q)) in
    let found : fetched m at n q ≡ Some ws = ap (λ b. if b then Some ws else None) e in
    own-found c p runs i x p m at n is
    (λ j y ne g. read-apart c p (longer x) y m at n lawful (d j y ne g).1 some (h ws found))
    (λ j y ne g. writes-apart c p y x lawful (shorter c p x y (d j y ne g)).1)
    ∙ ap (fetched m at n) (sym (behind-run c p x going))
read-found false c p runs i x m at n lawful is d going some e h =
    let q : Memories = (moment c p x x.steps).packet in
    let r : Memories = left_by (all_writes c p runs) p in
    let there : List ℕ = take n (drop (first_word m at) (words_at m r)) in
    let here : List ℕ = take n (drop (first_word m at) (words_at m q)) in
    ap (λ k. if nat_le (first_word m at + n) k then Some there else None) (same-sizes c p runs x going m)
    ∙ ap (λ b. if b then Some there else None) e
    ∙ sym (ap (λ b. if b then Some here else None) e)

-- a read that is done is a step of the run that reads
read-step : (c : CodeView) (p : Memories) (x : Isolated) (m : Mem) (r n off : ℕ) (g : Gpr) (ws : List ℕ) (a : ℕ) → let s = moment c p x x.steps in slice_get c.list s.engine.place ≡ Some (Read m r n g off)
    → fetched m (address g s.engine + off) n s.packet ≡ Some ws → Touches m (address g s.engine + off) n a → Reads c p (longer x) m a
read-step c p x m r n off g ws a is found t =
    let s : Next = moment c p x x.steps in
    let at : ℕ = address g s.engine + off in
    let went : step_of c p x x.steps ≡ Went = ap (λ o. (step_at o s.engine s.packet).stepped) is ∙ ap (λ o. (after_read m r at o s.engine s.packet).stepped) found in
    let lt : x.steps < suc x.steps = omega arith in
    let there : IsTouched (was_read (to_read (Some (Read m r n g off)) s.engine) Went) m a = (refl, t) in
    (x.steps, lt, subst (λ o. IsTouched (was_read (to_read o s.engine) (step_of c p x x.steps)) m a) (sym is) (subst (λ (z : Stepped). IsTouched (was_read (to_read (Some (Read m r n g off)) s.engine) z) m a) (sym went) there))

-- what the next instruction of a run is to read, is what it reads alone
pub reads-alike : (o : Option Instr) (c : CodeView) (p : Memories) (runs : List Isolated) (i : ℕ) (x : Isolated) → IsLawful c.list → slice_get runs i ≡ Some x → OthersSeparate c p runs i x → (lone_outcome c p x).outcome ≡ outcome.Going
    → let s = moment c p x x.steps in slice_get c.list s.engine.place ≡ o → ReadsAlike o s.engine (left_by (all_writes c p runs) p) s.packet
reads-alike (Some (Read m r n g off)) c p runs i x lawful is d going e =
    let s : Next = moment c p x x.steps in
    let at : ℕ = address g s.engine + off in
    let some : 1 ≤ n = (lawful s.engine.place (Read m r n g off) e).run_inside.0 in
    read-found (nat_le (first_word m at + n) (length (words_at m s.packet))) c p runs i x m at n lawful is d going some refl (λ ws found a t. read-step c p x m r n off g ws a e found t)
reads-alike (Some (Alu t op y z)) c p runs i x lawful is d going e = tt
reads-alike (Some (Un t op y)) c p runs i x lawful is d going e = tt
reads-alike (Some (Immed t v k)) c p runs i x lawful is d going e = tt
reads-alike (Some (Br k t)) c p runs i x lawful is d going e = tt
reads-alike (Some (Write m r n g off)) c p runs i x lawful is d going e = tt
reads-alike (Some (Halt k n)) c p runs i x lawful is d going e = tt
reads-alike None c p runs i x lawful is d going e = tt
