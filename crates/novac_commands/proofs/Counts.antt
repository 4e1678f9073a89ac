-- Counts that fit their text.
use Rattle.std.proofs.Common.{◌≡◌, ℕ, zero, suc, ◌+◌, ◌^◌, ◌<◌, ◌≤◌, nat_eq, Bool, true, false, List, length, take, get_or, All, Some, ap, sym, ◌∙◌, if◌then◌else◌, arith}
use Rattle.std.specs.Prelude.{slice_get}
use Rattle.std.specs.List.{sum}
use Rattle.std.proofs.lemmas.List.{take_all}
use Rattle.std.proofs.lemmas.List.Elements.{All-from_get_or}
use Rattle.std.proofs.lemmas.Option.{slice_get-get_or}
use Rattle.nv_base.specs.Memories.{Memories}
use Rattle.nv_base.specs.Log.{Log, empty_log, noted_all}
use Rattle.nv_base.specs.declared.outcome.Write.{Write}
use Rattle.nv_memtext.specs.OutcomeText.{outcome_text}
use Rattle.novac_machine.specs.Machine.{full_text, shown_writes}
use Rattle.ssu_ir.specs.Single.{single}
use Rattle.novac_commands.proofs.Writes.{all-writes}
use Rattle.nv_base.specs.World.{begun}
use Rattle.nv_base.specs.declared.outcome.Outcome.{Outcome}
use Rattle.nv_base.specs.declared.outcome.Outcome.TheVariants.{Going}
use Rattle.ssu_ir.specs.Entered.{Exit, JumpsTo, EndsWith, label_exit, is_entered, entered_behind, entered, AreEntries}
use Rattle.ssu_ir.specs.Meaning.{ssu_meaning}
use Rattle.ssu_ir.specs.Tree.{Label}
use Rattle.place_weights.specs.WeightsText.{count_limit, weights_text}
use Rattle.novac_commands.specs.Counting.{AreCounted}

-- ---- a label is entered at most once for each jump, and at the start

once-at-most : (b : Bool) → (if b then suc zero else zero) ≤ 1
once-at-most true = omega arith
once-at-most false = omega arith

behind-few : (labels : List Label) (n : ℕ) (o : Exit) (k : ℕ) → entered_behind labels n o k ≤ n
behind-few labels zero o k = omega arith
behind-few labels (suc n) (JumpsTo l ws w) k =
    let rest = behind-few labels n (label_exit (slice_get labels l) ws w) k in
    let one : is_entered l k ≤ 1 = once-at-most (nat_eq l k) in
    omega (arith, rest, one)
behind-few labels (suc n) (EndsWith f) k = omega arith

entered-few : (labels : List Label) (args : List ℕ) (p : Memories) (n k : ℕ) → entered labels args p n k ≤ n + 1
entered-few labels args p n k =
    let rest = behind-few labels n (label_exit (slice_get labels 0) args (begun p)) k in
    let one : is_entered 0 k ≤ 1 = once-at-most (nat_eq 0 k) in
    omega (arith, rest, one)

some-same : (a b : ℕ) → Some a ≡ Some b → a ≡ b
some-same a b e = cc

pub counts-small : (labels : List Label) (args : List ℕ) (p : Memories) (n : ℕ) (counts : List ℕ) → AreEntries counts labels args p n → n ≤ 100000000 → All (λ c. c < 2 ^ 32) counts
counts-small labels args p n counts e small =
    All-from_get_or (λ c. c < 2 ^ 32) counts 0 (λ i l.
    let inside : i < length labels = omega (arith, l, e.0) in
    let is : get_or counts i 0 ≡ entered labels args p n i = some-same _ _ (sym (slice_get-get_or counts i 0 l) ∙ e.1 i inside) in
    omega (arith, is, entered-few labels args p n i, small))

pub are-counted : (labels : List Label) (args : List ℕ) (p : Memories) (n : ℕ) (counts text : List ℕ) → AreEntries counts labels args p n → text ≡ weights_text (take count_limit counts)
    → ((ssu_meaning labels args p n).outcome ≡ Going → sum counts ≡ n + 1) → AreCounted labels args p n text
are-counted labels args p n counts text e printed all = record {
  counts = counts;
  entries = e;
  printed = printed;
  going = λ g few. let within : length counts ≤ count_limit = omega (arith, e.0, few) in ap sum (take_all count_limit counts within) ∙ all g;
}

-- ---- what is printed

pub printed-full : (labels : List Label) (args : List ℕ) (p : Memories) (n : ℕ) (o : Outcome) (packet : Memories) (log log0 : Log) (text : List ℕ) → single labels ≡ true → text ≡ outcome_text o packet log → o ≡ (ssu_meaning labels args p n).outcome
    → packet ≡ (ssu_meaning labels args p n).packet → log ≡ noted_all log0 (ssu_meaning labels args p n).writes → log0 ≡ empty_log shown_writes → text ≡ full_text (ssu_meaning labels args p n)
printed-full labels args p n o packet log log0 text s t e-outcome e-packet e-log e-new =
    let f = ssu_meaning labels args p n in
    t
    ∙ ap (λ (x : Outcome). outcome_text x packet log) e-outcome
    ∙ ap (λ (x : Memories). outcome_text f.outcome x log) e-packet
    ∙ ap (λ (x : Log). outcome_text f.outcome f.packet x)
    (e-log ∙ ap (λ (x : Log). noted_all x f.writes) e-new ∙ ap (λ (ws : List Write). noted_all (empty_log shown_writes) ws) (sym (all-writes labels args p n s)))
