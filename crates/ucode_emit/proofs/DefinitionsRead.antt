-- A read: its words come into read registers and are copied, and after it all stands ready.
use Rattle.std.proofs.Common.{◌≡◌, ℕ, zero, suc, ◌+◌, ◌<◌, ◌≤◌, true, false, List, [], ◌∷◌, ◌++◌, length, Some, refl, sym, ap, ◌∙◌, subst, inr, ⊎_elim, slice_get, arith}
use Rattle.std.specs.List.{AllByRecursion}
use Rattle.std.proofs.lemmas.Bool.{or_cases, or_parts, false≢true, eqb-true, false_from_ne_true}
use Rattle.std.proofs.lemmas.List.Elements.{All-head}
use Rattle.std.proofs.lemmas.Option.{none-some, same_Some, slice_get_within}
use Rattle.nv_base.specs.declared.term.Mem.{Mem}
use Rattle.nv_base.specs.declared.term.Mem.TheVariants.{Sram, Sdram, Scratch}
use Rattle.nv_base.specs.Sets.{is_in}
use Rattle.nv_base.specs.Words.{Env, assigned_all}
use Rattle.ssu_ir.specs.Tree.{Read, Tree, Do, Label}
use Rattle.ssu_ir.specs.Points.{Names, Point, points}
use Rattle.place_plan.specs.declared.place.Place.{Place}
use Rattle.place_plan.specs.declared.place.Place.TheVariants.{L, LD}
use Rattle.place_plan.specs.Places.{same_place}
use Rattle.place_plan.specs.Plan.{Plan, home, first}
use Rattle.place_plan.specs.Uses.{Fetched, numbered, place_values as values_at, is_used, Access}
use Rattle.place_plan.specs.Fits.{read_place, is_read_register, word_register, IsHoused, KeepsRead, run_of, read_places, has_place, none_shared}
use Rattle.place_plan.proofs.Places.{same_place-from, same_place-true}
use Rattle.ucode_emit.specs.Moves.{Words, put}
use Rattle.ucode_emit.proofs.MoveSteps.{put-other}
use Rattle.ucode_emit.specs.Pieces.{all_copies}
use Rattle.ucode_emit.specs.inner.Ready.{Ready}
use Rattle.ucode_emit.specs.inner.Machine.{IsReadable, filled}
use Rattle.ucode_emit.specs.inner.Layers.{Placed, PointsAt, root_point, HoldsAfterMoves}
use Rattle.ucode_emit.proofs.PointsEach.{each_here}
use Rattle.ucode_emit.proofs.PointsLabels.{formed_at}
use Rattle.ucode_emit.proofs.PointsUses.{in_at, numbered_at}
use Rattle.ucode_emit.proofs.PointsUsed.{EmittedPoint, spot_step}
use Rattle.ucode_emit.proofs.Copies.{put_here}
use Rattle.ucode_emit.proofs.DefinitionsHomes.{general_not_read, read_not_written, read_place_is, none_both, housed_each, settled_above, Lasts, in_place, in_read, lasts_from}
use Rattle.ucode_emit.proofs.DefinitionsReady.{spot_vars, waits_on, waits_register, Brought, ready_behind}
use Rattle.ucode_emit.proofs.DefinitionsDirect.{access_at, first_bound, copies_are_direct}
use Rattle.ucode_emit.proofs.DefinitionsResult.{waits_before}
use Rattle.ucode_emit.proofs.RunsWords.{outside, each_its_word}

-- ---- registers that are filled

pub read_place_same : (m : Mem) (i j : ℕ) → read_place m i ≡ read_place m j → i ≡ j
read_place_same Sram i j e = eqb-true i j (same_place-from (L i) (L j) e)
read_place_same Sdram i j e = eqb-true i j (same_place-from (LD i) (LD j) e)
read_place_same Scratch i j e = eqb-true i j (same_place-from (L i) (L j) e)

pub read_place_readable : (m : Mem) (k : ℕ) → k < 8 → IsReadable (read_place m k)
read_place_readable Sram k h = h
read_place_readable Sdram k h = h
read_place_readable Scratch k h = h

filled_at : (e : Words) (m : Mem) (f : ℕ) (ws : List ℕ) (i w : ℕ) → slice_get ws i ≡ Some w → filled e m f ws (read_place m (f + i)) ≡ w
filled_at e m f [] i w g = absurd (none-some w g)
filled_at e m f (v ∷ ws) zero w g =
    let z : f + zero ≡ f = omega arith in
    ap (λ j. put (filled e m (suc f) ws) (read_place m f) v (read_place m j)) z ∙ (put_here (filled e m (suc f) ws) (read_place m f) v ∙ same_Some v w g)
filled_at e m f (v ∷ ws) (suc i) w g =
    let z : f + suc i ≡ suc f + i = omega arith in
    put-other (filled e m (suc f) ws) (read_place m f) (read_place m (f + suc i)) v (λ s. let n : f + suc i ≡ f = read_place_same m (f + suc i) f s in omega arith)
    ∙ (ap (λ j. filled e m (suc f) ws (read_place m j)) z ∙ filled_at e m (suc f) ws i w g)

filled_other : (e : Words) (m : Mem) (f : ℕ) (ws : List ℕ) (t : Place) → has_place t (run_of (read_place m) f (length ws)) ≡ false → filled e m f ws t ≡ e t
filled_other e m f [] t h = refl
filled_other e m f (w ∷ ws) t h =
    let p = or_parts (same_place t (read_place m f)) (has_place t (run_of (read_place m) (suc f) (length ws))) h in
    put-other (filled e m (suc f) ws) (read_place m f) t w (λ s. false≢true (sym p.0 ∙ same_place-from t (read_place m f) s)) ∙ filled_other e m (suc f) ws t p.1

run_read : (m : Mem) (f n : ℕ) (t : Place) → has_place t (run_of (read_place m) f n) ≡ true → is_read_register t ≡ true
run_read m f zero t h = absurd (false≢true h)
run_read m f (suc n) t h =
    ⊎_elim (λ (e : same_place t (read_place m f) ≡ true). ap is_read_register (same_place-true t (read_place m f) e) ∙ read_place_is m f)
    (λ (e : has_place t (run_of (read_place m) (suc f) n) ≡ true). run_read m (suc f) n t e) (or_cases (same_place t (read_place m f)) (has_place t (run_of (read_place m) (suc f) n)) h)

-- ---- words of variables

pub word_there : (xs ws : List ℕ) (i x : ℕ) → length ws ≡ length xs → slice_get xs i ≡ Some x → (w : ℕ) × (slice_get ws i ≡ Some w)
word_there [] ws i x n e = absurd (none-some x e)
word_there (y ∷ xs) [] i x n e = absurd (omega arith)
word_there (y ∷ xs) (v ∷ ws) zero x n e = (v, refl)
word_there (y ∷ xs) (v ∷ ws) (suc i) x n e = word_there xs ws i x (omega arith) e

-- ---- a read's point

-- the number and the home of a word that is used
record ReadHome (labels : List Label) (p : Plan) (k : ℕ) (m : Mem) (xs : List ℕ) (x : ℕ) : Type 0 where
  number : ℕ
  there : slice_get xs number ≡ Some x
  at : (home p x).defined ≡ read_place m (first p k + number)

read_home : (labels : List Label) (p : Plan) (k : ℕ) (q : Point) (m : Mem) (xs : List ℕ) (y x : ℕ) → Placed labels p → slice_get (points labels) k ≡ Some q → values_at k q.place ≡ numbered k (Fetched m) 0 xs → is_in x xs ≡ true → is_used labels x ≡ true
    → ReadHome labels p k m xs x
read_home labels p k q m xs y x h e v i u =
    let a = in_at x xs i in
    let all = subst (AllByRecursion (IsHoused labels p)) v (each_here (λ k q. AllByRecursion (IsHoused labels p) (values_at k q.place)) (points labels) k q (housed_each labels p h) e) in
    let g = numbered_at (IsHoused labels p) k (Fetched m) 0 xs a.place x all a.there in
    let z : 0 + a.place ≡ a.place = omega arith in
    record { number = a.place; there = a.there; at = (g u).0 ∙ ap (λ j. read_place m (first p k + j)) z }

no_run : (m : Mem) (f n : ℕ) (t : Place) → (is_read_register t ≡ true → ⊥) → has_place t (run_of (read_place m) f n) ≡ false
no_run m f n t g = false_from_ne_true (has_place t (run_of (read_place m) f n)) (λ c. g (run_read m f n t c))

last_run : (labels : List Label) (p : Plan) (x : ℕ) (t : Place) (m : Mem) (f n : ℕ) → none_shared (run_of (read_place m) f n) (read_places labels p x) ≡ true → Lasts labels p x t → has_place t (run_of (read_place m) f n) ≡ false
last_run labels p x t m f n s (in_place g h) = no_run m f n t (λ c. general_not_read t g c)
last_run labels p x t m f n s (in_read g h) = false_from_ne_true (has_place t (run_of (read_place m) f n)) (λ c. none_both t (run_of (read_place m) f n) (read_places labels p x) s c h)

run_length : (m : Mem) (f : ℕ) (xs ws : List ℕ) (t : Place) → length ws ≡ length xs → has_place t (run_of (read_place m) f (length xs)) ≡ false → has_place t (run_of (read_place m) f (length ws)) ≡ false
run_length m f xs ws t n h = ap (λ l. has_place t (run_of (read_place m) f l)) n ∙ h

read_brought : (labels : List Label) (p : Plan) (k : ℕ) (of : Names) (above : List ℕ) (m : Mem) (xs ws : List ℕ) (y : ℕ) (t : Tree) (env : Env) (e : Words) → Placed labels p
    → EmittedPoint labels k (root_point of above (Do (Read m xs y) t)) (root_point of (above ++ xs) t) xs → length ws ≡ length xs → Ready labels p k (root_point of above (Do (Read m xs y) t)) env e
    → Brought labels p k (root_point of (above ++ xs) t) xs (assigned_all env xs ws) (filled e m (first p k) ws)
read_brought labels p k of above m xs ws y t env e h s n d =
    let q = root_point of above (Do (Read m xs y) t) in
    let r = root_point of (above ++ xs) t in
    let it : Access = record { point = k; mem = m; words = length xs } in
    let keeps : KeepsRead labels p q it = All-head (KeepsRead labels p q) it [] ((h.fits.points k q s.emit_context).reads) in
    let different = (formed_at labels k q h.single s.emit_context).different in record {
      defined = λ x i u.
          let g = read_home labels p k q m xs y x h s.emit_context refl i u in
          let w = word_there xs ws g.number x n g.there in
          ap (filled e m (first p k) ws) g.at ∙ (filled_at e m (first p k) ws g.number w.0 w.1 ∙ sym (each_its_word env xs ws g.number x w.0 different g.there w.1));
      held = λ x i f c l.
          let a = (lasts_from labels p x c (settled_above labels p (suc k) r x h s.next (s.known x i)) l).0 in
          let apart = keeps x (ap (is_in x) s.same ∙ i) (ap (is_in x) (spot_vars labels k q r xs s) ∙ f) in
          filled_other e m (first p k) ws c (run_length m (first p k) xs ws c n (last_run labels p x c m (first p k) (length xs) apart a))
          ∙ (d.held x (s.before_it x i f) c l ∙ sym (outside env xs ws x f));
      early = λ u v f.
          let w = waits_register labels p k q u h (waits_on labels p k q r xs u s v) in
          filled_other e m (first p k) ws (word_register p u) (no_run m (first p k) (length ws) (word_register p u) (λ c. read_not_written (word_register p u) c w))
          ∙ (d.early u (waits_before labels p k q r xs u s v f) ∙ sym (outside env xs ws u.value f));
    }

pub read : (labels : List Label) (p : Plan) → Placed labels p → (k : ℕ) (of : Names) (above : List ℕ) (m : Mem) (xs ws : List ℕ) (y : ℕ) (t : Tree) (env : Env) (e : Words) → PointsAt labels k of above (Do (Read m xs y) t) → length ws ≡ length xs
    → Ready labels p k (root_point of above (Do (Read m xs y) t)) env e
    → HoldsAfterMoves p.slots (all_copies p k xs) (filled e m (first p k) ws) (Ready labels p (suc k) (root_point of (above ++ xs) t) (assigned_all env xs ws))
read labels p h k of above m xs ws y t env e a n d =
    let q = root_point of above (Do (Read m xs y) t) in
    let r = root_point of (above ++ xs) t in
    let s : EmittedPoint labels k q r xs = spot_step labels k of above (Read m xs y) t a in
    let b : first p k + length xs ≤ 8 = first_bound m (length xs) (first p k) (access_at labels p k q h s.emit_context).0 in (
      copies_are_direct labels p k q r xs h s
          (λ x i u.
          let g = read_home labels p k q m xs y x h s.emit_context refl i u in
          let l : g.number < length xs = slice_get_within xs g.number x g.there in
          inr (subst IsReadable (sym g.at) (read_place_readable m (first p k + g.number) (omega arith)))),
      ready_behind labels p k q r xs (assigned_all env xs ws) (filled e m (first p k) ws) h s (read_brought labels p k of above m xs ws y t env e h s n d),
    )
