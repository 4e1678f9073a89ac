-- A turned draft may be taken for one of code whose places that are gone do nothing.
use Rattle.std.proofs.Common.{◌≡◌, ◌≢◌, ℕ, suc, ◌+◌, ◌-◌, ◌<◌, ◌≤◌, ◌⊎◌, inl, inr, ⊎_elim, Bool, true, false, List, length, get_or, set, Some, refl, sym, ap, ◌∙◌, subst, arith, nat_eq, length-set}
use Rattle.std.specs.Prelude.{slice_get}
use Rattle.std.proofs.lemmas.Bool.{cases_lt, false≢true}
use Rattle.std.proofs.lemmas.Bool.Decides.{eqb_tells}
use Rattle.nv_base.specs.Memories.{Memories}
use Rattle.uc_isa.specs.Moves.{weight}
use Rattle.uc_isa.specs.Step.{Next, effect, step, step_at}
use Rattle.uc_isa.specs.declared.engine.Engine.{Engine}
use Rattle.uc_isa.specs.declared.engine.Stepped.TheVariants.{Went}
use Rattle.uc_isa.specs.declared.instruction.Dst.TheVariants.{Nowhere}
use Rattle.uc_isa.specs.declared.instruction.Instr.{Instr}
use Rattle.uc_isa.specs.declared.instruction.Instr.TheVariants.{Immed}
use Rattle.uc_isa.proofs.Lockstep.{lockstep}
use Rattle.uc_isa.specs.Alike.{RunsAlike, StepsAlike}
use Rattle.uc_isa.specs.Program.{IsLawfulWithin, IsProgram}
use Rattle.uc_isa.specs.Relocated.{at_place}
use Rattle.uc_isa.specs.Starts.{AreInside, IsLabelStart}
use Rattle.uc_isa.specs.StraightCode.{IsEntered, IsStraight}
use Rattle.uc_isa.specs.Visits.{access}
use Rattle.uc_peep.proofs.Lists.{get-set-other, get-set-same}
use Rattle.uc_peep.proofs.Peeps.{kept-less, kept-trans}
use Rattle.uc_peep.proofs.Replaced.{gone-cases}
use Rattle.uc_peep.specs.Becomes.{IsKept}
use Rattle.uc_peep.specs.Draft.{AreMarked, IsDraft}
use Rattle.uc_peep.specs.Kept.{compacted, is_gone, kept_before}
use Rattle.uc_peep.specs.Window.{filler}
use Rattle.uc_peep_facts.specs.inner.Pairs.{AreTurnedTo, IsLevel, IsLevelTo}
use Rattle.uc_peep_facts.proofs.Lighter.{moves-lighter}
use Rattle.uc_peep_facts.proofs.Turning.{before-kept, fillers, pinned-kept, turned-kept}

some-instr : (i j : Instr) → Some i ≡ Some j → i ≡ j
some-instr i j e = cc

-- ---- place by place

pub level-none : (draft : List Instr) (gone : List Bool) → IsLevelTo draft draft gone 0
level-none draft gone = record { size = refl; kept = λ x k. refl; idle = λ x lt in' g. absurd (omega arith) }

pub level-kept : (draft level : List Instr) (gone : List Bool) (n : ℕ) → is_gone gone n ≡ false → IsLevelTo draft level gone n → IsLevelTo draft level gone (n + 1)
level-kept draft level gone n none h = record {
  size = h.size;
  kept = h.kept;
  idle = λ x lt in' g. ⊎_elim
      (λ (less : x < n). h.idle x less in' g)
      (λ (le : n ≤ x). let e : x ≡ n = omega arith in absurd (false≢true (sym none ∙ ap (is_gone gone) (sym e) ∙ g)))
      (cases_lt x n);
}

pub level-more : (draft level : List Instr) (gone : List Bool) (n : ℕ) → n < length level → is_gone gone n ≡ true → IsLevelTo draft level gone n → IsLevelTo draft (set level n (Immed Nowhere 0 0)) gone (n + 1)
level-more draft level gone n inside gone-here h = record {
  size = length-set level n (Immed Nowhere 0 0) ∙ h.size;
  kept = λ x k. ⊎_elim
      (λ (e : (nat_eq x n ≡ true) × (x ≡ n)). absurd (false≢true (sym k ∙ ap (is_gone gone) e.1 ∙ gone-here)))
      (λ (e : (nat_eq x n ≡ false) × (x ≢ n)). get-set-other level n x (Immed Nowhere 0 0) e.1 ∙ h.kept x k)
      (eqb_tells x n);
  idle = λ x lt in' g. ⊎_elim
      (λ (e : (nat_eq x n ≡ true) × (x ≡ n)). ap (slice_get (set level n (Immed Nowhere 0 0))) e.1 ∙ get-set-same level n (Immed Nowhere 0 0) inside)
      (λ (e : (nat_eq x n ≡ false) × (x ≢ n)). get-set-other level n x (Immed Nowhere 0 0) e.1 ∙ h.idle x (let d = e.1 in omega arith) in' g)
      (eqb_tells x n);
}

pub level-all : (draft level : List Instr) (gone : List Bool) (n : ℕ) → length level ≤ n → IsLevelTo draft level gone n → IsLevel draft level gone
level-all draft level gone n le h = record { size = h.size; kept = h.kept; idle = λ x in' g. h.idle x (let s = h.size in omega arith) in' g }

-- ---- both do the same

module _ (code : List Instr) (starts : List ℕ) (entered started : List Bool) (draft : List Instr) (gone : List Bool) (some : Bool) (lawful : IsProgram code) (inside : AreInside code starts)
    (me : AreMarked entered (IsEntered code)) (ms : AreMarked started (IsLabelStart starts)) (h : AreTurnedTo code entered started draft gone some (length code)) (level : List Instr) (l : IsLevel draft level gone) where
  kept-draft : IsKept code starts draft starts
  kept-draft = turned-kept code starts entered started draft gone some lawful inside me ms h

  fill : (x : ℕ) → is_gone gone x ≡ true → (slice_get draft x ≡ Some (filler x)) × (suc x < length draft)
  fill x g = fillers code starts entered started draft gone some lawful inside me ms h x g

  idle-at : (x : ℕ) → is_gone gone x ≡ true → slice_get level x ≡ Some (Immed Nowhere 0 0)
  idle-at x g = l.idle x (let f = (fill x g).1 in omega arith) g

  idle-step : (e : Engine) (p : Memories) → effect (Immed Nowhere 0 0) e p ≡ effect (filler e.place) e p
  idle-step e p = let one : e.place + 1 ≡ suc e.place = omega arith in ap (λ n. record { stepped = Went; engine = at_place n e; packet = p }) one

  same-step : (e : Engine) (p : Memories) → (is_gone gone e.place ≡ true) ⊎ (is_gone gone e.place ≡ false) → (step level e p ≡ step draft e p) × (access (slice_get level e.place) e ≡ access (slice_get draft e.place) e)
  same-step e p (inl g) = (
    ap (λ o. step_at o e p) (idle-at e.place g) ∙ idle-step e p ∙ sym (ap (λ o. step_at o e p) (fill e.place g).0),
    ap (λ o. access o e) (idle-at e.place g) ∙ sym (ap (λ o. access o e) (fill e.place g).0),
  )
  same-step e p (inr k) = (ap (λ o. step_at o e p) (l.kept e.place k), ap (λ o. access o e) (l.kept e.place k))

  level-alike : (e : Engine) (p : Memories) → RunsAlike level draft p e e
  level-alike e p = lockstep level draft (λ a b q. a ≡ b) steps stays e e p refl
    where
      same : (a : Engine) (q : Memories) → (step level a q ≡ step draft a q) × (access (slice_get level a.place) a ≡ access (slice_get draft a.place) a)
      same a q = same-step a q (gone-cases gone a.place)

      steps : (a b : Engine) (q : Memories) → a ≡ b → StepsAlike level draft q a b
      steps a b q e = subst (λ c. StepsAlike level draft q a c) e (record {
        place = refl;
        stepped = ap (λ (n : Next). n.stepped) (same a q).0;
        packet = ap (λ (n : Next). n.packet) (same a q).0;
        access = (same a q).1;
      })

      stays : (a b : Engine) (q : Memories) → a ≡ b → (step level a q).engine ≡ (step draft b q).engine
      stays a b q e = ap (λ (n : Next). n.engine) (same a q).0 ∙ ap (λ c. (step draft c q).engine) e

  -- ---- lawful

  law-at : (x : ℕ) (i : Instr) → slice_get level x ≡ Some i → (is_gone gone x ≡ true) ⊎ (is_gone gone x ≡ false) → IsLawfulWithin (length level) x i
  law-at x i at (inl g) = subst (λ j. IsLawfulWithin (length level) x j) (some-instr (Immed Nowhere 0 0) i (sym (idle-at x g) ∙ at)) (record {
    formed = record { operands = tt; run_inside = tt; pairs = tt; numbers = inl refl; halt = tt };
    target = tt;
    last = λ end'. absurd (let f = (fill x g).1 in let s = l.size in omega arith);
  })
  law-at x i at (inr k) = subst (λ n. IsLawfulWithin n x i) (sym l.size) (kept-draft.lawful.each x i (sym (l.kept x k) ∙ at))

  lighter : (x : ℕ) (i : Instr) → slice_get draft x ≡ Some i → (is_gone gone x ≡ true) ⊎ (is_gone gone x ≡ false) → (j : Instr) × (slice_get level x ≡ Some j) × (weight j ≤ weight i)
  lighter x i at (inl g) = (Immed Nowhere 0 0, idle-at x g, omega arith)
  lighter x i at (inr k) = (i, l.kept x k ∙ at, omega arith)

  lighter-back : (x : ℕ) (i : Instr) → slice_get level x ≡ Some i → (is_gone gone x ≡ true) ⊎ (is_gone gone x ≡ false) → (j : Instr) × (slice_get draft x ≡ Some j) × (weight j ≤ weight i)
  lighter-back x i at (inl g) = (filler x, (fill x g).0, omega arith)
  lighter-back x i at (inr k) = (i, sym (l.kept x k) ∙ at, omega arith)

  start-at-kept : (k : ℕ) → 0 < get_or starts k 0 → IsLabelStart starts (get_or starts k 0) → is_gone gone (get_or starts k 0 - 1) ≡ false
  start-at-kept k some' start =
      let next : suc (get_or starts k 0 - 1) ≡ get_or starts k 0 = omega arith in
      before-kept code starts entered started draft gone some lawful inside me ms h (get_or starts k 0 - 1) (subst (IsLabelStart starts) (sym next) start)

  -- the draft with its places that do nothing
  kept-level : ((k : ℕ) → k < length starts → IsLabelStart starts (get_or starts k 0)) → IsKept draft starts level starts
  kept-level are = record {
    lawful = record { some = let s = l.size in let m = kept-draft.lawful.some in omega arith; each = λ x i at. law-at x i at (gone-cases gone x) };
    count = refl;
    inside = λ k d lt. let s = l.size in let m = kept-draft.inside k d lt in omega arith;
    follows = record {
      gives = λ e p b m. (m, λ ws. sym ((level-alike e p).run m ws));
      gives_only = λ e p b m. (m, λ ws. sym ((level-alike e p).run m ws));
      access = λ e p b m. inr (m, sym ((level-alike e p).access m));
      access_only = λ e p b m. (m, sym ((level-alike e p).access m));
      visits = λ e p b m. (m, λ k lt. sym ((level-alike e p).stood (get_or starts k 0) m));
      visits_only = λ e p b m. (m, λ k lt. sym ((level-alike e p).stood (get_or starts k 0) m));
    };
    moves = λ ws. moves-lighter 0 draft level starts ws l.size (λ x i at. lighter x i at (gone-cases gone x));
    shape = λ shape. record {
      first = shape.first;
      rises = shape.rises;
      before = λ k some' lt.
          let b = shape.before k some' lt in
          let up : get_or starts 0 0 < get_or starts k 0 = shape.rises 0 k some' lt in
          (b.0, l.kept (get_or starts k 0 - 1) (start-at-kept k (omega arith) (are k lt)) ∙ b.1, b.2);
    };
    most = let s = l.size in omega arith;
  }

  -- ---- what is gone may be taken out

  pub turned-draft : IsDraft level starts draft gone
  turned-draft = record {
    size = sym l.size;
    size_gone = h.size_gone ∙ sym h.size ∙ sym l.size;
    lawful = kept-draft.lawful;
    alike = λ e p b. level-alike e p;
    fillers = λ x g. let f = fill x g in (f.0, let s = l.size in let t = f.1 in omega arith);
    old = λ x i k crooked at. l.kept x k ∙ at;
    stays = λ x i crooked at. stay x i crooked at (gone-cases gone x);
    apart = λ s y pinned lt inside' met. (s, omega arith, lt, pinned-kept code starts entered started draft gone some lawful inside me ms h s pinned);
    moves = λ ws. moves-lighter 0 level draft starts ws (sym l.size) (λ x i at. lighter-back x i at (gone-cases gone x));
  }
    where
      stay : (x : ℕ) (i : Instr) → ¬ IsStraight i → slice_get level x ≡ Some i → (is_gone gone x ≡ true) ⊎ (is_gone gone x ≡ false) → (slice_get draft x ≡ Some i) × (is_gone gone x ≡ false)
      stay x i crooked at (inl g) = absurd (crooked (subst IsStraight (some-instr (Immed Nowhere 0 0) i (sym (idle-at x g) ∙ at)) tt))
      stay x i crooked at (inr k) = (sym (l.kept x k) ∙ at, k)

  pub level-inside : AreInside level starts
  level-inside = λ k d lt. let s = l.size in let m = kept-draft.inside k d lt in omega arith

  pub turned-level : ((k : ℕ) → k < length starts → IsLabelStart starts (get_or starts k 0)) → IsKept code starts level starts
  turned-level are = kept-trans code draft level starts starts starts kept-draft (kept-level are)

  pub turned-less : some ≡ true → (next : List Instr) → next ≡ compacted (kept_before gone) gone draft → length next < length code
  turned-less was next is =
      let g = h.found was in
      let less = kept-less level starts draft gone level-inside turned-draft g.0 g.1 in
      let e = ap length is in
      let s = l.size in
      let t = h.size in
      omega arith
