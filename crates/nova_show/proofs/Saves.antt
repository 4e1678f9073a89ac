-- Files that are saved, one after the other.
use Rattle.std.proofs.Common.{◌≡◌, ℕ, ◌+◌, ◌<◌, ◌≤◌, ◌⊎◌, inl, inr, List, [], ◌∷◌, ◌++◌, length, take, drop, refl, ap, sym, ◌∙◌, subst}
use Rattle.std.specs.Prelude.{Contains, slice_index_or, not, map, filter, flat_map}
use Rattle.std.proofs.lemmas.List.{append-nil, append_assoc, map-append, take_more, take_all, take-append-drop}
use Rattle.std.proofs.lemmas.List.Elements.{filter-append, Contains-append_left, Contains-append_right}
use Rattle.std.proofs.lemmas.Grind.{flat_map-append}
use Rattle.nv_outside.specs.Calls.{Call, Save, Asked, AsksAtMost}
use Rattle.nv_outside.specs.Causes.{Rose}
use Rattle.nv_outside.specs.Holding.{Holding}
use Rattle.nv_outside.proofs.Calls.{asked-none, asked-both, part-self, at_most-first}
use Rattle.nova_show.specs.Paths.{is_standard}
use Rattle.nova_show.specs.Saving.{name_of, files_of, saves_of, printed_of, AreSaved, IsUnsaved}
use Rattle.nova_show.specs.declared.saving.Saving.{Saving}

-- lists of files, appended
pub files-append : (xs ys : List Saving) → files_of (xs ++ ys) ≡ files_of xs ++ files_of ys
files-append xs ys = filter-append (λ s. not (is_standard (name_of s))) xs ys

pub saves-append : (xs ys : List Saving) → saves_of (xs ++ ys) ≡ saves_of xs ++ saves_of ys
saves-append xs ys = ap (λ (fs : List Saving). map (λ (s : Saving). Save (name_of s)) fs) (files-append xs ys) ∙ map-append (λ (s : Saving). Save (name_of s)) (files_of xs) (files_of ys)

pub printed-append : (xs ys : List Saving) → printed_of (xs ++ ys) ≡ printed_of xs ++ printed_of ys
printed-append xs ys =
    ap (λ (fs : List Saving). flat_map (λ (s : Saving). s.bytes.items) fs) (filter-append (λ (s : Saving). is_standard (name_of s)) xs ys) ∙ flat_map-append (λ (s : Saving). s.bytes.items) (filter (λ (s : Saving). is_standard (name_of s)) xs) (filter (λ (s : Saving). is_standard (name_of s)) ys)

pub saved-both : (xs ys : List Saving) (old mid new : Holding) → AreSaved xs old mid → AreSaved ys mid new → AreSaved (xs ++ ys) old new
saved-both [] ys old mid new h k = subst (λ (x : Holding). AreSaved ys x new) h k
saved-both (x ∷ xs) ys old mid new h k = (h.0, h.1, saved-both xs ys h.0 mid new h.2 k)

-- these were saved and printed, in this order and without a fault
pub record HasSaved {S O : Type 0} (T U : Type 0) (held : S → Holding) (history : S → List Call → Type 0) (faults : S → List ℕ → ℕ) (written : O → List ℕ) (puts : O → ℕ) (old now : S) (before after : O) (savings : List Saving) : Type 0 where
  pub asked : Asked history old now (saves_of savings)
  pub saved : T → AreSaved (files_of savings) (held old) (held now)
  pub printed : U → written after ≡ written before ++ printed_of savings
  pub no_fault : (q : List ℕ) → faults now q ≡ faults old q
  pub no_print_fault : puts after ≡ puts before

pub has-none : {S O : Type 0} (T U : Type 0) (held : S → Holding) (history : S → List Call → Type 0) (faults : S → List ℕ → ℕ) (written : O → List ℕ) (puts : O → ℕ) (s : S) (o : O) → HasSaved T U held history faults written puts s s o o []
has-none T U held history faults written puts s o = record {
  asked = asked-none history s;
  saved = λ t. refl;
  printed = λ u. sym (append-nil (written o));
  no_fault = λ q. refl;
  no_print_fault = refl;
}

pub has-both : {S O : Type 0} (T U : Type 0) (held : S → Holding) (history : S → List Call → Type 0) (faults : S → List ℕ → ℕ) (written : O → List ℕ) (puts : O → ℕ) (old mid new : S) (before between after : O) (xs ys : List Saving)
    → HasSaved T U held history faults written puts old mid before between xs → HasSaved T U held history faults written puts mid new between after ys → HasSaved T U held history faults written puts old new before after (xs ++ ys)
has-both T U held history faults written puts old mid new before between after xs ys h k = record {
  asked = subst (Asked history old new) (sym (saves-append xs ys)) (asked-both history old mid new (saves_of xs) (saves_of ys) h.asked k.asked);
  saved = λ t. subst (λ (fs : List Saving). AreSaved fs (held old) (held new)) (sym (files-append xs ys)) (saved-both (files_of xs) (files_of ys) (held old) (held mid) (held new) (h.saved t) (k.saved t));
  printed = λ u.
      k.printed u ∙ ap (λ (x : List ℕ). x ++ printed_of ys) (h.printed u) ∙ append_assoc (written before) (printed_of xs) (printed_of ys) ∙ ap (λ (x : List ℕ). written before ++ x) (sym (printed-append xs ys));
  no_fault = λ q. k.no_fault q ∙ h.no_fault q;
  no_print_fault = k.no_print_fault ∙ h.no_print_fault;
}

-- ---- the loop over a list of files

saved-more : (xs : List Saving) (k : ℕ) (x : Saving) → k < length xs → x ≡ slice_index_or xs k x → take (k + 1) xs ≡ take k xs ++ x ∷ []
saved-more xs k x there is = take_more xs k x there ∙ ap (λ (y : Saving). take k xs ++ y ∷ []) (sym is)

saved-cut : (xs : List Saving) (k : ℕ) (x : Saving) → k < length xs → x ≡ slice_index_or xs k x → xs ≡ (take k xs ++ x ∷ []) ++ drop (k + 1) xs
saved-cut xs k x there is = sym (take-append-drop (k + 1) xs) ∙ ap (λ (l : List Saving). l ++ drop (k + 1) xs) (saved-more xs k x there is)

pub asked-all : {S : Type 0} (history : S → List Call → Type 0) (old now : S) (xs : List Saving) (k : ℕ) → length xs ≤ k → Asked history old now (saves_of (take k xs)) → AsksAtMost history old now (saves_of xs)
asked-all history old now xs k all asked = (saves_of xs, part-self (saves_of xs), subst (λ (l : List Saving). Asked history old now (saves_of l)) (take_all k xs all) asked)

module _ {S O : Type 0} (T U : Type 0) (held : S → Holding) (history : S → List Call → Type 0) (faults : S → List ℕ → ℕ) (written : O → List ℕ) (puts : O → ℕ) (old now next : S) (before between after : O) (xs : List Saving) (k : ℕ) (x : Saving) where
  pub has-next : k < length xs → x ≡ slice_index_or xs k x → HasSaved T U held history faults written puts old now before between (take k xs) → HasSaved T U held history faults written puts now next between after (x ∷ [])
      → HasSaved T U held history faults written puts old next before after (take (k + 1) xs)
  has-next there is h one =
      subst (λ (l : List Saving). HasSaved T U held history faults written puts old next before after l) (sym (saved-more xs k x there is)) (has-both T U held history faults written puts old now next before between after (take k xs) (x ∷ []) h one)

  -- whatever became of the next, no other saves were asked
  pub asked-next : k < length xs → x ≡ slice_index_or xs k x → HasSaved T U held history faults written puts old now before between (take k xs) → Asked history now next (saves_of (x ∷ [])) → AsksAtMost history old next (saves_of xs)
  asked-next there is h one =
      let both : Asked history old next (saves_of (take k xs ++ x ∷ [])) = subst (Asked history old next) (sym (saves-append (take k xs) (x ∷ []))) (asked-both history old now next (saves_of (take k xs)) (saves_of (x ∷ [])) h.asked one) in
      subst (AsksAtMost history old next) (sym (ap saves_of (saved-cut xs k x there is) ∙ saves-append (take k xs ++ x ∷ []) (drop (k + 1) xs)))
      (at_most-first history old next (saves_of (take k xs ++ x ∷ [])) (saves_of (drop (k + 1) xs)) (saves_of (take k xs ++ x ∷ []), part-self (saves_of (take k xs ++ x ∷ [])), both))

  -- the next wasn't saved
  pub unsaved-next : k < length xs → x ≡ slice_index_or xs k x → HasSaved T U held history faults written puts old now before between (take k xs)
      → IsUnsaved (files_of (x ∷ [])) (faults now) (faults next) ⊎ Rose (puts between) (puts after) → IsUnsaved (files_of xs) (faults old) (faults next) ⊎ Rose (puts before) (puts after)
  unsaved-next there is h (inl one) =
      let there' : Contains (files_of (take k xs ++ x ∷ [])) one.0 = subst (λ (l : List Saving). Contains l one.0) (sym (files-append (take k xs) (x ∷ []))) (Contains-append_right (files_of (take k xs)) (files_of (x ∷ [])) one.0 one.1) in
      inl (
        one.0,
        subst (λ (l : List Saving). Contains l one.0) (sym (ap files_of (saved-cut xs k x there is) ∙ files-append (take k xs ++ x ∷ []) (drop (k + 1) xs))) (Contains-append_left (files_of (take k xs ++ x ∷ [])) (files_of (drop (k + 1) xs)) one.0 there'),
        subst (λ (n : ℕ). Rose n (faults next (name_of one.0))) (h.no_fault (name_of one.0)) one.2,
      )
  unsaved-next there is h (inr one) = inr (subst (λ (n : ℕ). Rose n (puts after)) h.no_print_fault one)
