-- A draft in which a window is replaced.
use Rattle.std.proofs.Common.{◌≡◌, ℕ, zero, suc, ◌+◌, ◌-◌, ◌*◌, ◌<◌, ◌≤◌, ◌⊎◌, inl, inr, ⊎_elim, Bool, true, false, le-leb, leb-true, List, [], ◌∷◌, ◌++◌, length, get_or, take, drop, Some, All, refl, sym, ap, ◌∙◌, subst, arith, length-append}
use Rattle.std.specs.Prelude.{Option, slice_get, slice_index_or, nat_le}
use Rattle.std.proofs.lemmas.Bool.{false≢true, cases_lt}
use Rattle.std.proofs.lemmas.List.{length-take-le, length-drop}
use Rattle.std.proofs.lemmas.Option.{slice_get_within, get_or_from_slice_get}
use Rattle.nv_base.specs.Memories.{HasSizes, Memories}
use Rattle.uc_isa.specs.Engine.{IsEngine}
use Rattle.uc_isa.specs.Moves.{label_weight, moves, moves_from}
use Rattle.uc_isa.specs.Step.{effect}
use Rattle.uc_isa.specs.declared.engine.Engine.{Engine}
use Rattle.uc_isa.specs.declared.instruction.Cond.TheVariants.{Always, C, NC, NZ, Z}
use Rattle.uc_isa.specs.declared.instruction.Instr.{Instr}
use Rattle.uc_isa.specs.declared.instruction.Instr.TheVariants.{Alu, Br, Halt, Immed, Read, Un, Write}
use Rattle.uc_peep.proofs.Lists.{get-drop, get-fillers, get-left, get-right, get-take, length-fillers, same-lists}
use Rattle.uc_peep.proofs.WindowRuns.{AllStraight, IsRewrite, LeadsOn, Lies, rewrite-alike}
use Rattle.uc_peep.specs.Draft.{IsDraft, IsMarks, IsOpen, IsPut, IsFallThrough, MayReplace}
use Rattle.uc_peep.specs.Kept.{is_gone}
use Rattle.uc_peep.specs.Liveness.{IsClosed}
use Rattle.uc_peep.specs.Sets.{AgreeOn}
use Rattle.uc_peep.specs.Window.{IsPinned, IsShorter, filler, fillers, padded}
use Rattle.uc_isa.proofs.Costs.{label-same, moves-append, moves-level}
use Rattle.uc_isa.proofs.Effects.{value-at}
use Rattle.uc_isa.proofs.Lockstep.{alike-trans}
use Rattle.uc_isa.specs.Program.{IsFormed, IsLawfulWithin, IsProgram}
use Rattle.uc_isa.specs.Relocated.{at_place}
use Rattle.uc_isa.specs.Resources.{IsNext, Resource, value}
use Rattle.uc_isa.specs.Starts.{IsLabelStart}
use Rattle.uc_isa.specs.StraightCode.{GoesTo, IsEntered, IsStraight, along, weights}

-- ---- texts

pub lies-by : (code : List Instr) (x : ℕ) (is : List Instr) → ((d : ℕ) (i : Instr) → slice_get is d ≡ Some i → (slice_get code (x + d) ≡ Some i) × LeadsOn (x + d) i) → Lies code x is
lies-by code x [] h = tt
lies-by code x (i ∷ is) h =
    let e : x + 0 ≡ x = omega arith in
    let one = h 0 i refl in (
      ap (slice_get code) (sym e) ∙ one.0,
      (
        subst (λ n. LeadsOn n i) e one.1,
        lies-by code (suc x) is (λ d j at.
            let more : x + suc d ≡ suc x + d = omega arith in
            let next = h (suc d) j at in
            (ap (slice_get code) (sym more) ∙ next.0, subst (λ n. LeadsOn n j) more next.1)),
      ),
    )

pub straight-by : (is : List Instr) → ((d : ℕ) (i : Instr) → slice_get is d ≡ Some i → IsStraight i) → AllStraight is
straight-by [] h = tt
straight-by (i ∷ is) h = (h 0 i refl, straight-by is (λ d j at. h (suc d) j at))

pub all-at : (P : Instr → Type 0) (is : List Instr) (d : ℕ) (i : Instr) → All P is → slice_get is d ≡ Some i → P i
all-at P is d i all at = subst P (get_or_from_slice_get is d i i at) (all d i (slice_get_within is d i at))

-- ---- shorter code with fillers

along-append : (as' bs : List Instr) (e : Engine) (ms : Memories) → along (as' ++ bs) e ms ≡ along bs (along as' e ms) ms
along-append [] bs e ms = refl
along-append (i ∷ as') bs e ms = along-append as' bs (effect i e ms).engine ms

along-fillers : (x n : ℕ) (e : Engine) (ms : Memories) (s : Resource) → value s (along (fillers x n) e ms) ≡ value s e
along-fillers x zero e ms s = refl
along-fillers x (suc n) e ms s = along-fillers (suc x) n (at_place (suc x) e) ms s ∙ value-at s (suc x) e

padded-agrees : (p k set : ℕ) (ws as' : List Instr) → ((e : Engine) (ms : Memories) → IsEngine e → HasSizes ms → AgreeOn set (along ws e ms) (along as' e ms)) → (e : Engine) (ms : Memories) → IsEngine e → HasSizes ms → AgreeOn set (along ws e ms) (along (padded p k as') e ms)
padded-agrees p k set ws as' h e ms engine sizes = record {
  by = λ s spot t. (h e ms engine sizes).by s spot t ∙ sym (ap (value s) (along-append as' (fillers (p + length as') (k - length as')) e ms) ∙ along-fillers (p + length as') (k - length as') (along as' e ms) ms s);
}

pub length-padded : (p k : ℕ) (as' : List Instr) → length as' ≤ k → length (padded p k as') ≡ k
length-padded p k as' h = let a = length-append as' (fillers (p + length as') (k - length as')) in let b = length-fillers (p + length as') (k - length as') in omega arith

padded-first : (p k d : ℕ) (as' : List Instr) → d < length as' → slice_get (padded p k as') d ≡ slice_get as' d
padded-first p k d as' h = get-left as' (fillers (p + length as') (k - length as')) d h

padded-rest : (p k d : ℕ) (as' : List Instr) → length as' ≤ d → d < k → slice_get (padded p k as') d ≡ Some (filler (p + d))
padded-rest p k d as' h lt =
    let e : d ≡ length as' + (d - length as') = omega arith in
    let g : p + length as' + (d - length as') ≡ p + d = omega arith in
    ap (slice_get (padded p k as')) e
    ∙ get-right as' (fillers (p + length as') (k - length as')) (d - length as')
    ∙ get-fillers (p + length as') (k - length as') (d - length as') (omega arith)
    ∙ ap (λ n. Some (filler n)) g

-- the k instructions from p on
abbrev pub text : List Instr → ℕ → ℕ → List Instr
text code p k = take k (drop p code)

pub length-text : (code : List Instr) (p k : ℕ) → p + k ≤ length code → length (text code p k) ≡ k
length-text code p k h = length-take-le k (drop p code) (let e = length-drop p code in omega arith)

pub text-at : (code : List Instr) (p k d : ℕ) → d < k → slice_get (text code p k) d ≡ slice_get code (p + d)
text-at code p k d h = get-take (drop p code) k d h ∙ get-drop code p d

-- ---- the draft

-- a place is outside of the window, or so far after its first place
abbrev pub Zone : ℕ → ℕ → ℕ → Type 0
Zone p k x = ((x < p) ⊎ (p + k ≤ x)) ⊎ ((d : ℕ) × (d < k) × (x ≡ p + d))

pub zone : (p k x : ℕ) → Zone p k x
zone p k x = ⊎_elim
    (λ (lt : x < p). inl (inl lt))
    (λ (le : p ≤ x). ⊎_elim (λ (lt : x < p + k). inr (x - p, omega arith, omega arith)) (λ (past : p + k ≤ x). inl (inr past)) (cases_lt x (p + k)))
    (cases_lt x p)

fail : (b : Bool) → b ≡ false → b ≡ true → ⊥
fail b f t = false≢true (sym f ∙ t)

pub straight-lawful : (len x : ℕ) (i : Instr) → IsStraight i → IsFormed i → x + 1 < len → IsLawfulWithin len x i
straight-lawful len x (Alu d op a b) s h lt = record { formed = h; target = tt; last = λ e. omega arith }
straight-lawful len x (Un d op a) s h lt = record { formed = h; target = tt; last = λ e. omega arith }
straight-lawful len x (Immed d v sh) s h lt = record { formed = h; target = tt; last = λ e. omega arith }
straight-lawful len x (Br b t) s h lt = absurd s
straight-lawful len x (Read m r n a off) s h lt = absurd s
straight-lawful len x (Write m r n a off) s h lt = absurd s
straight-lawful len x (Halt k n) s h lt = absurd s

pub filler-lawful : (len x : ℕ) → suc x < len → IsLawfulWithin len x (filler x)
filler-lawful len x lt = record { formed = record { operands = tt; run_inside = tt; pairs = tt; numbers = tt; halt = tt }; target = lt; last = λ e. tt }

-- a next place is the one behind, or the target of a branch
pub next-cases : (i : Instr) (x y : ℕ) → IsNext i x y → (y ≡ x + 1) ⊎ (GoesTo i y × ¬ IsStraight i)
next-cases (Alu d op a b) x y h = inl h
next-cases (Un d op a) x y h = inl h
next-cases (Immed d v sh) x y h = inl h
next-cases (Br Always t) x y h = inr (sym h, λ s. s)
next-cases (Br Z t) x y (inl h) = inr (sym h, λ s. s)
next-cases (Br Z t) x y (inr h) = inl h
next-cases (Br NZ t) x y (inl h) = inr (sym h, λ s. s)
next-cases (Br NZ t) x y (inr h) = inl h
next-cases (Br C t) x y (inl h) = inr (sym h, λ s. s)
next-cases (Br C t) x y (inr h) = inl h
next-cases (Br NC t) x y (inl h) = inr (sym h, λ s. s)
next-cases (Br NC t) x y (inr h) = inl h
next-cases (Read m r n a off) x y h = inl h
next-cases (Write m r n a off) x y h = inl h
next-cases (Halt k n) x y h = absurd h

filler-next : (x y : ℕ) (i : Instr) → i ≡ filler x → IsNext i x y → y ≡ suc x
filler-next x y i same next = subst (λ j. IsNext j x y) same next

pub gone-cases : (gone : List Bool) (x : ℕ) → (is_gone gone x ≡ true) ⊎ (is_gone gone x ≡ false)
gone-cases gone x = by (is_gone gone x) refl
  where
    by : (b : Bool) → is_gone gone x ≡ b → (is_gone gone x ≡ true) ⊎ (is_gone gone x ≡ false)
    by true h = inl h
    by false h = inr h

pub same-some : (i j : Instr) (o : Option Instr) → o ≡ Some i → o ≡ Some j → i ≡ j
same-some i j o a b = let e : Some i ≡ Some j = sym a ∙ b in cc

-- what a replacement in a draft starts from
pub record IsReplacement (code : List Instr) (starts : List ℕ) (entered started : List Bool) (draft draft' : List Instr) (gone gone' : List Bool) (set p k : ℕ) (as' : List Instr) : Type 0 where
  pub marks : IsMarks code starts entered started
  pub drafted : IsDraft code starts draft gone
  pub untouched : (x : ℕ) → x < p → is_gone gone x ≡ false
  pub some : 1 ≤ k
  pub may : MayReplace draft gone entered started p k
  pub shorter : IsShorter (text draft p k) set as'
  pub put : IsPut p k as' draft draft' gone gone'

module _ (code : List Instr) (starts : List ℕ) (entered started : List Bool) (draft draft' : List Instr) (gone gone' : List Bool) (set p k : ℕ) (as' : List Instr)
    (r : IsReplacement code starts entered started draft draft' gone gone' set p k as') where
  inside-len : p + k ≤ length draft
  inside-len = let h = r.may.inside in omega arith

  text-size : length (text draft p k) ≡ k
  text-size = length-text draft p k inside-len

  pub few : length as' < k
  few = let h = r.shorter.fewer in let e = text-size in omega arith

  not-entered : (y : ℕ) → p < y → y < p + k → ¬ IsEntered code y
  not-entered y a b e = fail _ ((r.may.open_ y (let le : p ≤ y = omega arith in le) b).1 a).0 ((r.marks.are_entered y).1 e)

  not-start : (y : ℕ) → p < y → y < p + k → ¬ IsLabelStart starts y
  not-start y a b e = fail _ ((r.may.open_ y (let le : p ≤ y = omega arith in le) b).1 a).1 ((r.marks.are_started y).1 e)

  -- nothing leads into the window but by its first place
  pub entry : (x y : ℕ) (i : Instr) → (x < p) ⊎ (p + k ≤ x) → slice_get draft x ≡ Some i → IsNext i x y → (y ≤ p) ⊎ (p + k ≤ y)
  entry x y i out at next = ⊎_elim
      (λ (g : is_gone gone x ≡ true). onward out (let e = filler-next x y i (same-some i (filler x) _ at (r.drafted.fillers x g).0) next in let one : suc x ≡ x + 1 = omega arith in e ∙ one))
      (λ (kept : is_gone gone x ≡ false). ⊎_elim (λ (e : y ≡ x + 1). onward out e)
      (λ (t : GoesTo i y × ¬ IsStraight i). target (x, i, r.drafted.old x i kept t.1 at, t.0)) (next-cases i x y next))
      (gone-cases gone x)
    where
      onward : (x < p) ⊎ (p + k ≤ x) → y ≡ x + 1 → (y ≤ p) ⊎ (p + k ≤ y)
      onward (inl lt) e = inl (omega arith)
      onward (inr le) e = inr (omega arith)

      target : IsEntered code y → (y ≤ p) ⊎ (p + k ≤ y)
      target e = ⊎_elim (λ (lt : p < y). ⊎_elim (λ (in' : y < p + k). absurd (not-entered y lt in' e)) (λ (past : p + k ≤ y). inr past) (cases_lt y (p + k))) (λ (le : y ≤ p). inl le) (cases_lt p y)

  open-at : (d : ℕ) → d < k → IsOpen draft gone (p + d)
  open-at d lt = (r.may.open_ (p + d) (omega arith) (omega arith)).0

  text-straight : (d : ℕ) (i : Instr) → slice_get (text draft p k) d ≡ Some i → (slice_get draft (p + d) ≡ Some i) × IsStraight i
  text-straight d i at =
      let lt : d < k = let w = slice_get_within (text draft p k) d i at in let e = text-size in omega arith in
      let there : slice_get draft (p + d) ≡ Some i = sym (text-at draft p k d lt) ∙ at in
      let o = open-at d lt in
      (there, subst IsStraight (same-some o.instruction i _ o.there there) o.straight)

  padded-size : length (padded p k as') ≡ k
  padded-size = length-padded p k as' (let h = few in omega arith)

  padded-at : (d : ℕ) (i : Instr) → slice_get (padded p k as') d ≡ Some i → (slice_get draft' (p + d) ≡ Some i) × LeadsOn (p + d) i
  padded-at d i at =
      let lt : d < k = let w = slice_get_within (padded p k as') d i at in let e = padded-size in omega arith in
      ⊎_elim
      (λ (f : d < length as').
      let is : slice_get as' d ≡ Some i = sym (padded-first p k d as' f) ∙ at in
      ((r.put.first d lt f).0 ∙ is, inl (all-at IsStraight as' d i r.shorter.straight is)))
      (λ (m : length as' ≤ d).
      let is : filler (p + d) ≡ i = same-some (filler (p + d)) i _ (padded-rest p k d as' m lt) at in
      ((r.put.rest d lt m).0 ∙ ap (λ j. Some j) is, inr (sym is)))
      (cases_lt d (length as'))

  -- ---- what is kept

  law-at : (x : ℕ) (i : Instr) → Zone p k x → slice_get draft' x ≡ Some i → IsLawfulWithin (length draft') x i
  law-at x i (inl out) at = subst (λ n. IsLawfulWithin n x i) (sym r.put.size) (r.drafted.lawful.each x i (sym (r.put.outside x out).0 ∙ at))
  law-at x i (inr (d, lt, e)) at = ⊎_elim
      (λ (f : d < length as').
      let is : slice_get as' d ≡ Some i = sym (r.put.first d lt f).0 ∙ ap (slice_get draft') (sym e) ∙ at in
      straight-lawful (length draft') x i (all-at IsStraight as' d i r.shorter.straight is) (all-at IsFormed as' d i r.shorter.lawful is) (let size = r.put.size in let h = r.may.inside in omega arith))
      (λ (m : length as' ≤ d).
      let is : filler x ≡ i = same-some (filler x) i _ (ap (slice_get draft') e ∙ (r.put.rest d lt m).0 ∙ ap (λ n. Some (filler n)) (sym e)) at in
      subst (λ j. IsLawfulWithin (length draft') x j) is (filler-lawful (length draft') x (let size = r.put.size in let h = r.may.inside in omega arith)))
      (cases_lt d (length as'))

  rewritten : (sets : List ℕ) → set ≡ get_or sets (p + k) 0 → IsClosed draft sets → IsRewrite draft draft' sets p (text draft p k) (padded p k as')
  rewritten sets is closed =
      let wide : p + k ≡ p + length (text draft p k) = ap (λ n. p + n) (sym text-size) in
      record {
        lawful = λ x i at. (r.drafted.lawful.each x i at).formed;
        lawful' = λ x i at. (law-at x i (zone p k x) at).formed;
        closed = closed;
        some = subst (λ n. 1 ≤ n) (sym text-size) r.some;
        even = text-size ∙ sym padded-size;
        straight = straight-by (text draft p k) (λ d i at. (text-straight d i at).1);
        lies = lies-by draft p (text draft p k) (λ d i at. let t = text-straight d i at in (t.0, inl t.1));
        lies' = lies-by draft' p (padded p k as') padded-at;
        outside = λ x out. (r.put.outside x (subst (λ n. (x < p) ⊎ (n ≤ x)) (sym wide) out)).0;
        entry = λ x y i out at next. subst (λ n. (y ≤ p) ⊎ (n ≤ y)) wide (entry x y i (subst (λ n. (x < p) ⊎ (n ≤ x)) (sym wide) out) at next);
        same = λ e ms h sizes. subst (λ n. AgreeOn n (along (text draft p k) e ms) (along (padded p k as') e ms)) (is ∙ ap (λ n. get_or sets n 0) wide) (padded-agrees p k set (text draft p k) as' r.shorter.same e ms h sizes);
      }

  lawful' : IsProgram draft'
  lawful' = record { some = let size = r.put.size in let h = r.drafted.lawful.some in omega arith; each = λ x i at. law-at x i (zone p k x) at }

  fillers' : (x : ℕ) → Zone p k x → is_gone gone' x ≡ true → (slice_get draft' x ≡ Some (filler x)) × (suc x < length code)
  fillers' x (inl out) g = let h = r.drafted.fillers x (sym (r.put.outside x out).1 ∙ g) in ((r.put.outside x out).0 ∙ h.0, h.1)
  fillers' x (inr (d, lt, e)) g = ⊎_elim
      (λ (f : d < length as'). absurd (fail _ (ap (is_gone gone') e ∙ (r.put.first d lt f).1 ∙ (open-at d lt).kept) g))
      (λ (m : length as' ≤ d). (ap (slice_get draft') e ∙ (r.put.rest d lt m).0 ∙ ap (λ n. Some (filler n)) (sym e), let size = r.drafted.size in let h = r.may.inside in omega arith))
      (cases_lt d (length as'))

  old' : (x : ℕ) (i : Instr) → Zone p k x → is_gone gone' x ≡ false → ¬ IsStraight i → slice_get draft' x ≡ Some i → slice_get code x ≡ Some i
  old' x i (inl out) kept crooked at = r.drafted.old x i (sym (r.put.outside x out).1 ∙ kept) crooked (sym (r.put.outside x out).0 ∙ at)
  old' x i (inr (d, lt, e)) kept crooked at = ⊎_elim
      (λ (f : d < length as'). absurd (crooked (all-at IsStraight as' d i r.shorter.straight (sym (r.put.first d lt f).0 ∙ ap (slice_get draft') (sym e) ∙ at))))
      (λ (m : length as' ≤ d). absurd (fail _ kept (ap (is_gone gone') e ∙ (r.put.rest d lt m).1)))
      (cases_lt d (length as'))

  stays' : (x : ℕ) (i : Instr) → Zone p k x → ¬ IsStraight i → slice_get code x ≡ Some i → (slice_get draft' x ≡ Some i) × (is_gone gone' x ≡ false)
  stays' x i (inl out) crooked at = let h = r.drafted.stays x i crooked at in ((r.put.outside x out).0 ∙ h.0, (r.put.outside x out).1 ∙ h.1)
  stays' x i (inr (d, lt, e)) crooked at =
      let h = r.drafted.stays x i crooked at in
      let o = open-at d lt in
      absurd (crooked (subst IsStraight (same-some o.instruction i _ o.there (ap (slice_get draft) (sym e) ∙ h.0)) o.straight))

  apart' : (s y : ℕ) → IsPinned starts s → s < y → y < length code → (IsLabelStart starts s × IsEntered code y) ⊎ IsLabelStart starts y → (z : ℕ) × (s ≤ z) × (z < y) × (is_gone gone' z ≡ false)
  apart' s y pinned lt inside met = ⊎_elim
      (λ (below : s < p). (s, omega arith, lt, (r.put.outside s (inl below)).1 ∙ r.untouched s below))
      (λ (le : p ≤ s). ⊎_elim
      (λ (within : s < p + k). ⊎_elim
      (λ (above : p < s). absurd (pinned-inside pinned above within))
      (λ (first : s ≤ p). let at : s ≡ p = omega arith in at-first at pinned)
      (cases_lt p s))
      (λ (past : p + k ≤ s). let h = r.drafted.apart s y pinned lt inside met in (h.0, h.1, h.2, (r.put.outside h.0 (inr (let far = h.1 in omega arith))).1 ∙ h.3))
      (cases_lt s (p + k)))
      (cases_lt s p)
    where
      pinned-inside : IsPinned starts s → p < s → s < p + k → ⊥
      pinned-inside (inl none) a b = omega arith
      pinned-inside (inr start) a b = not-start s a b start

      unmet : IsFallThrough entered started y → ⊥
      unmet q = ⊎_elim (λ (e : IsLabelStart starts s × IsEntered code y). fail _ q.0 ((r.marks.are_entered y).1 e.1)) (λ (e : IsLabelStart starts y). fail _ q.1 ((r.marks.are_started y).1 e)) met

      unmet-end : s ≡ p → y ≡ p + k → (slice_index_or started p false ≡ true → slice_index_or entered (p + k) false ≡ false) → slice_index_or started (p + k) false ≡ false → ⊥
      unmet-end at e a b = ⊎_elim
          (λ (m : IsLabelStart starts s × IsEntered code y). fail _ (ap (λ n. slice_index_or entered n false) e ∙ a (ap (λ n. slice_index_or started n false) (sym at) ∙ (r.marks.are_started s).1 m.0)) ((r.marks.are_entered y).1 m.1))
          (λ (m : IsLabelStart starts y). fail _ (ap (λ n. slice_index_or started n false) e ∙ b) ((r.marks.are_started y).1 m))
          met

      flag : s ≡ p → IsPinned starts s → (p ≡ 0) ⊎ (slice_index_or started p false ≡ true)
      flag at (inl none) = inl (sym at ∙ none)
      flag at (inr start) = inr (ap (λ n. slice_index_or started n false) (sym at) ∙ (r.marks.are_started s).1 start)

      at-first : s ≡ p → IsPinned starts s → (z : ℕ) × (s ≤ z) × (z < y) × (is_gone gone' z ≡ false)
      at-first at pin =
          let b = r.may.clear_end (flag at pin) in
          ⊎_elim
          (λ (far : p + k < y). (p + k, omega arith, far, (r.put.outside (p + k) (inr (omega arith))).1 ∙ b.2))
          (λ (near : y ≤ p + k). ⊎_elim
          (λ (in' : y < p + k). absurd (unmet ((r.may.open_ y (omega arith) in').1 (omega arith))))
          (λ (end : p + k ≤ y). let e : y ≡ p + k = omega arith in absurd (unmet-end at e b.0 b.1))
          (cases_lt y (p + k)))
          (cases_lt (p + k) y)

-- ---- moves

gt-leb : (a b : ℕ) → b < a → nat_le a b ≡ false
gt-leb a b h = by (nat_le a b) refl
  where
    by : (t : Bool) → nat_le a b ≡ t → nat_le a b ≡ false
    by true e = absurd (let le : a ≤ b = leb-true a b e in omega arith)
    by false e = e

cases_le : (a b : ℕ) → (a ≤ b) ⊎ (b < a)
cases_le a b = ⊎_elim (λ (h : b < a). inr h) (λ (h : a ≤ b). inl h) (cases_lt b a)

weights-append : (a b : List Instr) → weights (a ++ b) ≡ weights a + weights b
weights-append [] b = omega arith
weights-append (i ∷ a) b = let h = weights-append a b in omega arith

weights-fillers : (x n : ℕ) → weights (fillers x n) ≡ 0
weights-fillers x zero = refl
weights-fillers x (suc n) = let h = weights-fillers (suc x) n in omega arith

-- other instructions in the place of k from p on
abbrev pub spliced : List Instr → ℕ → ℕ → List Instr → List Instr
spliced l p k vs = take p l ++ (vs ++ drop (p + k) l)

module _ (l : List Instr) (p k : ℕ) (vs : List Instr) (inside : p + k ≤ length l) (size : length vs ≡ k) where
  front : length (take p l) ≡ p
  front = length-take-le p l (omega arith)

  spliced-size : length (spliced l p k vs) ≡ length l
  spliced-size =
      let a = length-append (take p l) (vs ++ drop (p + k) l) in
      let b = length-append vs (drop (p + k) l) in
      let d = length-drop (p + k) l in
      let f = front in
      omega arith

  spliced-at : (x : ℕ) → (x < p) ⊎ (p + k ≤ x) → slice_get (spliced l p k vs) x ≡ slice_get l x
  spliced-at x (inl lt) = get-left (take p l) (vs ++ drop (p + k) l) x (let f = front in omega arith) ∙ get-take l p x lt
  spliced-at x (inr le) =
      let f = front in
      let e : x ≡ length (take p l) + (length vs + (x - (p + k))) = omega arith in
      let g : (p + k) + (x - (p + k)) ≡ x = omega arith in
      ap (slice_get (spliced l p k vs)) e
      ∙ get-right (take p l) (vs ++ drop (p + k) l) (length vs + (x - (p + k)))
      ∙ get-right vs (drop (p + k) l) (x - (p + k))
      ∙ get-drop l (p + k) (x - (p + k))
      ∙ ap (slice_get l) g

  spliced-in : (d : ℕ) → d < k → slice_get (spliced l p k vs) (p + d) ≡ slice_get vs d
  spliced-in d lt =
      let e : p + d ≡ length (take p l) + d = ap (λ n. n + d) (sym front) in
      ap (slice_get (spliced l p k vs)) e ∙ get-right (take p l) (vs ++ drop (p + k) l) d ∙ get-left vs (drop (p + k) l) d (omega arith)

  spliced-is : (l' : List Instr) → length l' ≡ length l → ((x : ℕ) → (x < p) ⊎ (p + k ≤ x) → slice_get l' x ≡ slice_get l x) → ((d : ℕ) → d < k → slice_get l' (p + d) ≡ slice_get vs d) → l' ≡ spliced l p k vs
  spliced-is l' same out in' = same-lists l' (spliced l p k vs) (same ∙ sym spliced-size) (λ x. by x (zone p k x))
    where
      by : (x : ℕ) → Zone p k x → slice_get l' x ≡ slice_get (spliced l p k vs) x
      by x (inl o) = out x o ∙ sym (spliced-at x o)
      by x (inr (d, lt, e)) = ap (slice_get l') e ∙ in' d lt ∙ sym (ap (slice_get (spliced l p k vs)) e ∙ spliced-in d lt)

  spliced-moves : (starts ws : List ℕ) → moves (spliced l p k vs) starts ws ≡ moves_from 0 (take p l) starts ws + (moves_from p vs starts ws + moves_from (p + k) (drop (p + k) l) starts ws)
  spliced-moves starts ws =
      let f : 0 + length (take p l) ≡ p = let e = front in omega arith in
      let g : p + length vs ≡ p + k = ap (λ n. p + n) size in
      moves-append 0 (take p l) (vs ++ drop (p + k) l) starts ws
      ∙ ap (λ n. moves_from 0 (take p l) starts ws + moves_from n (vs ++ drop (p + k) l) starts ws) f
      ∙ ap (λ n. moves_from 0 (take p l) starts ws + n) (moves-append p vs (drop (p + k) l) starts ws ∙ ap (λ n. moves_from p vs starts ws + moves_from n (drop (p + k) l) starts ws) g)

module _ (code : List Instr) (starts : List ℕ) (entered started : List Bool) (draft draft' : List Instr) (gone gone' : List Bool) (set p k : ℕ) (as' : List Instr)
    (r : IsReplacement code starts entered started draft draft' gone gone' set p k as') where
  abbrev R : Type 0
  R = IsReplacement code starts entered started draft draft' gone gone' set p k as'

  le-same : (s d : ℕ) → d < k → IsLabelStart starts s → nat_le s (p + d) ≡ nat_le s p
  le-same s d lt start = ⊎_elim
      (λ (le : s ≤ p). le-leb s (p + d) (omega arith) ∙ sym (le-leb s p le))
      (λ (past : p < s). ⊎_elim
      (λ (in' : s < p + k). absurd (fail _ ((r.may.open_ s (let le : p ≤ s = omega arith in le) in').1 past).1 ((r.marks.are_started s).1 start)))
      (λ (far : p + k ≤ s). gt-leb s (p + d) (omega arith) ∙ sym (gt-leb s p past))
      (cases_lt s (p + k)))
      (cases_le s p)

  moves' : (ws : List ℕ) → moves draft' starts ws ≤ moves draft starts ws
  moves' ws =
      let inside : p + k ≤ length draft = inside-len code starts entered started draft draft' gone gone' set p k as' r in
      let tsize = text-size code starts entered started draft draft' gone gone' set p k as' r in
      let psize = padded-size code starts entered started draft draft' gone gone' set p k as' r in
      let old_text : draft ≡ spliced draft p k (text draft p k) = spliced-is draft p k (text draft p k) inside tsize draft refl (λ x o. refl) (λ d lt. sym (text-at draft p k d lt)) in
      let after : draft' ≡ spliced draft p k (padded p k as') = spliced-is draft p k (padded p k as') inside psize draft' r.put.size (λ x o. (r.put.outside x o).0) (λ d lt. put-in d lt) in
      let m : moves draft starts ws ≡ moves_from 0 (take p draft) starts ws + (moves_from p (text draft p k) starts ws + moves_from (p + k) (drop (p + k) draft) starts ws) = ap (λ l. moves l starts ws) old_text ∙ spliced-moves draft p k (text draft p k) inside tsize starts ws in
      let m' : moves draft' starts ws ≡ moves_from 0 (take p draft) starts ws + (moves_from p (padded p k as') starts ws + moves_from (p + k) (drop (p + k) draft) starts ws) = ap (λ l. moves l starts ws) after ∙ spliced-moves draft p k (padded p k as') inside psize starts ws in
      let w : ℕ = label_weight 1 starts ws p in
      let level : moves_from p (text draft p k) starts ws ≡ weights (text draft p k) * w = moves-level p w (text draft p k) starts ws (λ d lt. label-same (p + d) p 1 starts ws (λ s is. le-same s d (omega arith) is)) in
      let level' : moves_from p (padded p k as') starts ws ≡ weights (padded p k as') * w = moves-level p w (padded p k as') starts ws (λ d lt. label-same (p + d) p 1 starts ws (λ s is. le-same s d (omega arith) is)) in
      let light : weights (padded p k as') ≤ weights (text draft p k) =
      let a = weights-append as' (fillers (p + length as') (k - length as')) in
      let b = weights-fillers (p + length as') (k - length as') in
      let h = r.shorter.weight in omega arith in
      let lighter : weights (padded p k as') * w ≤ weights (text draft p k) * w = mul-le (weights (padded p k as')) (weights (text draft p k)) w light in
      omega arith
    where
      put-in : (d : ℕ) → d < k → slice_get draft' (p + d) ≡ slice_get (padded p k as') d
      put-in d lt = ⊎_elim
          (λ (f : d < length as'). (r.put.first d lt f).0 ∙ sym (padded-first p k d as' f))
          (λ (m : length as' ≤ d). (r.put.rest d lt m).0 ∙ sym (padded-rest p k d as' m lt))
          (cases_lt d (length as'))

      mul-le : (a b c : ℕ) → a ≤ b → a * c ≤ b * c
      mul-le a b c h = grind arith

  -- the draft with the window replaced
  pub drafted' : (sets : List ℕ) → set ≡ get_or sets (p + k) 0 → IsClosed draft sets → IsDraft code starts draft' gone'
  drafted' sets is closed = record {
    size = r.put.size ∙ r.drafted.size;
    size_gone = r.put.size_gone ∙ r.drafted.size_gone;
    lawful = lawful' code starts entered started draft draft' gone gone' set p k as' r;
    alike = λ e ms b. alike-trans code draft draft' ms e e e (r.drafted.alike e ms b) (rewrite-alike draft draft' sets p (text draft p k) (padded p k as') (rewritten code starts entered started draft draft' gone gone' set p k as' r sets is closed) e ms b.engine b.sizes b.place);
    fillers = λ x g. fillers' code starts entered started draft draft' gone gone' set p k as' r x (zone p k x) g;
    old = λ x i. old' code starts entered started draft draft' gone gone' set p k as' r x i (zone p k x);
    stays = λ x i. stays' code starts entered started draft draft' gone gone' set p k as' r x i (zone p k x);
    apart = apart' code starts entered started draft draft' gone gone' set p k as' r;
    moves = λ ws. let a = moves' ws in let b = r.drafted.moves ws in omega arith;
  }
