-- Short forms, by computing.
use Rattle.std.proofs.Common.{◌≡◌, ◌∙◌, refl, ap, sym, ℕ, zero, suc, ◌<◌, List, [], ◌∷◌, Some, length, take, arith}
use Rattle.std.specs.Prelude.{slice_get}
use Rattle.std.specs.Fmt.{digits}
use Rattle.nv_base.specs.Memories.{Memories}
use Rattle.nv_base.specs.declared.outcome.Outcome.TheVariants as outcome
use Rattle.novac_commands.specs.Counting.{AreCounted}
use Rattle.ssu_ir.specs.Entered.{entered}
use Rattle.ssu_ir.specs.Examples.{less_of_two}
use Rattle.ssu_ir.specs.Tree.{Label}
use Rattle.place_weights.specs.WeightsText.{count_limit, weights_text}
use Rattle.laws_commands.specs.ExamplesForms.{EntriesByJumps, Operations, ShortCounts, forever}

pub entries_by_jumps : EntriesByJumps
entries_by_jumps = record { start = λ p. refl; none = λ p. refl; one = λ p. refl; over = λ p. refl; again = λ p. refl }

pub operations : Operations
operations = record {
  sum_code_does = refl;
  moves_do_nothing = refl;
  sum_does = refl;
  copies_do_nothing = refl;
  labels_in_order = refl;
}

-- ---- the text of the entries

less_entries : (p : Memories) (k : ℕ) → k < 2 → slice_get (1 ∷ 1 ∷ []) k ≡ Some (entered less_of_two (5 ∷ 7 ∷ []) p 9 k)
less_entries p zero lt = refl
less_entries p (suc zero) lt = refl
less_entries p (suc (suc k)) lt = absurd (omega (arith, lt))

forever_entries : (p : Memories) (k : ℕ) → k < 1 → slice_get (10 ∷ []) k ≡ Some (entered forever [] p 9 k)
forever_entries p zero lt = refl
forever_entries p (suc k) lt = absurd (omega (arith, lt))

-- lists of one length with the same at each place
same_list : (xs ys : List ℕ) → length xs ≡ length ys → ((k : ℕ) → k < length xs → slice_get xs k ≡ slice_get ys k) → xs ≡ ys
same_list [] [] e same = refl
same_list [] (y ∷ ys) e same = absurd (omega (arith, e))
same_list (x ∷ xs) [] e same = absurd (omega (arith, e))
same_list (x ∷ xs) (y ∷ ys) e same =
    let head : x ≡ y = some_once x y (same 0 (omega arith)) in
    let tail : xs ≡ ys = same_list xs ys (omega (arith, e)) (λ k lt. same (suc k) (omega (arith, lt))) in
    ap (λ (z : ℕ). z ∷ xs) head ∙ ap (λ (zs : List ℕ). y ∷ zs) tail
  where
    some_once : (x y : ℕ) → Some x ≡ Some y → x ≡ y
    some_once x y e = cc

one_text : (labels : List Label) (args : List ℕ) (p : Memories) (n : ℕ) (text text' : List ℕ) → AreCounted labels args p n text → AreCounted labels args p n text' → text ≡ text'
one_text labels args p n text text' h k =
    let few : length h.counts ≡ length labels = h.entries.0 in
    let same : h.counts ≡ k.counts = same_list h.counts k.counts (h.entries.0 ∙ sym k.entries.0) (λ i lt. h.entries.1 i (omega (arith, lt, few)) ∙ sym (k.entries.1 i (omega (arith, lt, few)))) in
    h.printed ∙ ap (λ (counts : List ℕ). weights_text (take count_limit counts)) same ∙ sym k.printed

ended_is_not_going : outcome.Ended (5 ∷ []) ≡ outcome.Going → ⊥
ended_is_not_going e = cc

pub short_counts : ShortCounts
unfolding digits
short_counts = record {
  less = λ p. record { counts = 1 ∷ 1 ∷ []; entries = (refl, less_entries p); printed = refl; going = λ e. absurd (ended_is_not_going e) };
  going = λ p. record { counts = 10 ∷ []; entries = (refl, forever_entries p); printed = refl; going = λ e few. refl };
  one = one_text;
}
