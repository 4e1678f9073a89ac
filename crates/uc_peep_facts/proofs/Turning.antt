-- Drafts in which branches over a jump are turned.
use Rattle.std.proofs.Common.{◌≡◌, ◌≢◌, ℕ, zero, suc, ◌+◌, ◌-◌, ◌<◌, ◌≤◌, ◌⊎◌, inl, inr, ⊎_elim, Bool, true, false, List, [], ◌∷◌, length, get_or, set, Some, refl, sym, ap, ◌∙◌, subst, arith, nat_eq, length-set, get_or-set_other}
use Rattle.std.specs.Prelude.{slice_get, slice_index_or}
use Rattle.std.proofs.lemmas.Bool.{cases_lt, false≢true}
use Rattle.std.proofs.lemmas.Bool.Decides.{eqb_tells}
use Rattle.std.proofs.lemmas.Option.{slice_get_within}
use Rattle.nv_base.specs.Memories.{Memories}
use Rattle.uc_isa.specs.Lawful.{IsLast}
use Rattle.uc_isa.specs.Moves.{weight}
use Rattle.uc_isa.specs.declared.engine.Engine.{Engine}
use Rattle.uc_isa.specs.declared.instruction.Cond.{Cond}
use Rattle.uc_isa.specs.declared.instruction.Cond.TheVariants.{Always}
use Rattle.uc_isa.specs.declared.instruction.Instr.{Instr}
use Rattle.uc_isa.specs.declared.instruction.Instr.TheVariants.{Alu, Br, Halt, Immed, Read, Un, Write}
use Rattle.uc_isa.specs.Alike.{Begins, Follows}
use Rattle.uc_isa.specs.Program.{IsFormed, IsLawfulWithin, IsProgram}
use Rattle.uc_isa.specs.Relocated.{relocated}
use Rattle.uc_isa.specs.Starts.{AreInside, IsLabelStart}
use Rattle.uc_isa.specs.StraightCode.{IsEntered}
use Rattle.uc_peep_facts.proofs.Lighter.{moves-lighter}
use Rattle.uc_peep.proofs.Lists.{get-set-other, get-set-same}
use Rattle.uc_isa.proofs.Costs.{start-first, start-more}
use Rattle.uc_peep.proofs.Replaced.{gone-cases}
use Rattle.uc_peep.specs.Becomes.{IsKept}
use Rattle.uc_peep.specs.Draft.{AreMarked}
use Rattle.uc_peep.specs.Kept.{compacted, is_gone, kept_before}
use Rattle.uc_peep.specs.Window.{IsPinned, filler}
use Rattle.uc_peep_facts.specs.Turned.{HasNoTurnable, IsTurned, asks, opposite}
use Rattle.uc_peep_facts.specs.Turned.IsTurned.{Nothing, Turned, Stays}
use Rattle.uc_peep_facts.specs.inner.Pairs.{AreTurnedTo, IsOver, IsPutAt}
use Rattle.uc_peep_facts.proofs.Exchanged.{AreExchanged, IsPair, swapped, through}

some-instr : (i j : Instr) → Some i ≡ Some j → i ≡ j
some-instr i j e = cc

always-asks : (c : Cond) (x y : ℕ) → asks c ≡ true → Br c x ≡ Br Always y → ⊥
always-asks c x y t e = let same : c ≡ Always = cc in false≢true (sym (ap asks same) ∙ t)

-- ---- place by place

pub turned-none : (code : List Instr) (entered started gone : List Bool) → length gone ≡ length code → ((x : ℕ) → is_gone gone x ≡ false) → AreTurnedTo code entered started code gone false 0
turned-none code entered started gone size none = record {
  size = refl;
  size_gone = size;
  first = none 0;
  pair = λ x g. absurd (false≢true (sym (none (suc x)) ∙ g));
  same = λ x k k'. refl;
  found = λ e. absurd (false≢true e);
  none = λ e x c y lt over. absurd (omega arith);
}

pub turned-stays : (code : List Instr) (entered started : List Bool) (draft : List Instr) (gone : List Bool) (some : Bool) (n : ℕ) → ((c : Cond) (y : ℕ) → ¬ IsOver code entered started n c y) → AreTurnedTo code entered started draft gone some n → AreTurnedTo code entered started draft gone some (n + 1)
turned-stays code entered started draft gone some n alone h = record {
  size = h.size;
  size_gone = h.size_gone;
  first = h.first;
  pair = λ x g. let p = h.pair x g in (let lt = p.0 in omega arith, p.1);
  same = h.same;
  found = h.found;
  none = λ e x c y lt over. ⊎_elim
      (λ (less : x < n). h.none e x c y less over)
      (λ (le : n ≤ x). let at : x ≡ n = omega arith in alone c y (subst (λ m. IsOver code entered started m c y) at over))
      (cases_lt x n);
}

-- a turned pair is no other pair's branch
apart-pairs : (code : List Instr) (entered started : List Bool) (x n : ℕ) (c d : Cond) (y z : ℕ) → IsOver code entered started x c y → IsOver code entered started n d z → x + 1 ≢ n
apart-pairs code entered started x n c d y z over here e =
    always-asks d (n + 2) y here.tests (some-instr (Br d (n + 2)) (Br Always y) (sym here.branch ∙ ap (slice_get code) (sym e) ∙ over.jump))

pub turned-more : (code : List Instr) (entered started : List Bool) (draft : List Instr) (gone : List Bool) (some : Bool) (n : ℕ) (c : Cond) (t : ℕ) → IsOver code entered started n c t → AreTurnedTo code entered started draft gone some n
    → AreTurnedTo code entered started (set (set draft n (Br (opposite c) t)) (n + 1) (filler (n + 1))) (set gone (n + 1) true) true (n + 1)
turned-more code entered started draft gone some n c t over h = record {
  size = length-set (set draft n (Br (opposite c) t)) (n + 1) (filler (n + 1)) ∙ length-set draft n (Br (opposite c) t) ∙ h.size;
  size_gone = length-set gone (n + 1) true ∙ h.size_gone;
  first = other-gone 0 (λ e. omega arith) ∙ h.first;
  pair = pair;
  same = λ x k k'. ⊎_elim
      (λ (e : (nat_eq x n ≡ true) × (x ≡ n)). absurd (false≢true (sym k' ∙ ap (is_gone (set gone (n + 1) true)) (ap suc e.1 ∙ one) ∙ gone-here)))
      (λ (e : (nat_eq x n ≡ false) × (x ≢ n)). ⊎_elim
      (λ (f : (nat_eq x (n + 1) ≡ true) × (x ≡ n + 1)). absurd (false≢true (sym k ∙ ap (is_gone (set gone (n + 1) true)) f.1 ∙ gone-here)))
      (λ (f : (nat_eq x (n + 1) ≡ false) × (x ≢ n + 1)).
      other-draft x e.1 f.1 ∙ h.same x (sym (other-gone x f.1) ∙ k) (sym (other-gone (suc x) (λ g. let d = e.1 in absurd (d (let s = g in omega arith)))) ∙ k'))
      (eqb_tells x (n + 1)))
      (eqb_tells x n);
  found = λ e. (n + 1, gone-here);
  none = λ e. absurd (false≢true (sym e));
}
  where
    one : suc n ≡ n + 1
    one = omega arith

    inside : n + 1 < length draft
    inside = let w = slice_get_within code (n + 1) (Br Always t) over.jump in let s = h.size in omega arith

    gone-here : is_gone (set gone (n + 1) true) (n + 1) ≡ true
    gone-here = marked gone (n + 1) (let i = inside in let s = h.size in let g = h.size_gone in omega arith)
      where
        marked : (l : List Bool) (k : ℕ) → k < length l → slice_index_or (set l k true) k false ≡ true
        marked [] k lt = absurd (omega arith)
        marked (b ∷ l) zero lt = refl
        marked (b ∷ l) (suc k) lt = marked l k (omega arith)

    other-gone : (x : ℕ) → x ≢ n + 1 → is_gone (set gone (n + 1) true) x ≡ is_gone gone x
    other-gone x e = get_or-set_other gone (n + 1) x true false e

    other-draft : (x : ℕ) → x ≢ n → x ≢ n + 1 → slice_get (set (set draft n (Br (opposite c) t)) (n + 1) (filler (n + 1))) x ≡ slice_get draft x
    other-draft x a b = get-set-other (set draft n (Br (opposite c) t)) (n + 1) x (filler (n + 1)) b ∙ get-set-other draft n x (Br (opposite c) t) a

    pair-here : IsPutAt code entered started (set (set draft n (Br (opposite c) t)) (n + 1) (filler (n + 1))) n
    pair-here = record {
      condition = c;
      target = t;
      over = over;
      branch = get-set-other (set draft n (Br (opposite c) t)) (n + 1) n (filler (n + 1)) (λ e. omega arith) ∙ get-set-same draft n (Br (opposite c) t) (let i = inside in omega arith);
      fills =
          ap (slice_get (set (set draft n (Br (opposite c) t)) (n + 1) (filler (n + 1)))) one
          ∙ get-set-same (set draft n (Br (opposite c) t)) (n + 1) (filler (n + 1)) (let i = inside in let s = length-set draft n (Br (opposite c) t) in omega arith)
          ∙ ap (λ m. Some (filler m)) (sym one);
    }

    pair : (x : ℕ) → is_gone (set gone (n + 1) true) (suc x) ≡ true → (x < n + 1) × IsPutAt code entered started (set (set draft n (Br (opposite c) t)) (n + 1) (filler (n + 1))) x
    pair x g = ⊎_elim
        (λ (e : (nat_eq x n ≡ true) × (x ≡ n)). (let s = e.1 in omega arith, subst (IsPutAt code entered started (set (set draft n (Br (opposite c) t)) (n + 1) (filler (n + 1)))) (sym e.1) pair-here))
        (λ (e : (nat_eq x n ≡ false) × (x ≢ n)).
        let d : x ≢ n = e.1 in
        let old = h.pair x (sym (other-gone (suc x) (λ s. d (omega arith))) ∙ g) in
        let lt : x < n = old.0 in
        let put : IsPutAt code entered started draft x = old.1 in
        let past : suc x ≢ n = λ s. apart-pairs code entered started x n put.condition c put.target t put.over over (let more : x + 1 ≡ n = omega arith in more) in (
          omega arith,
          record {
            condition = put.condition;
            target = put.target;
            over = put.over;
            branch = other-draft x d (λ s. omega arith) ∙ put.branch;
            fills = other-draft (suc x) past (λ s. d (omega arith)) ∙ put.fills;
          },
        ))
        (eqb_tells x n)

pub start-at : (starts : List ℕ) (k : ℕ) → k < length starts → IsLabelStart starts (get_or starts k 0)
start-at [] k lt = absurd (omega arith)
start-at (t ∷ starts) zero lt = start-first t starts
start-at (t ∷ starts) (suc k) lt = start-more t (get_or starts k 0) starts (start-at starts k (omega arith))

-- ---- code itself

relocated-nowhere : (i : Instr) → relocated (λ x. x) i ≡ i
relocated-nowhere (Alu d op x y) = refl
relocated-nowhere (Un d op x) = refl
relocated-nowhere (Immed d v k) = refl
relocated-nowhere (Br b t) = refl
relocated-nowhere (Read m r n x off) = refl
relocated-nowhere (Write m r n x off) = refl
relocated-nowhere (Halt k n) = refl

pub turned-itself : (code : List Instr) → IsTurned code code
turned-itself [] = Nothing
turned-itself (i ∷ code) = subst (λ j. IsTurned (i ∷ code) (j ∷ code)) (relocated-nowhere i) (Stays (λ x. x) i code code (turned-itself code))

-- ---- the whole draft

module _ (code : List Instr) (starts : List ℕ) (entered started : List Bool) (draft : List Instr) (gone : List Bool) (some : Bool) (lawful : IsProgram code) (inside : AreInside code starts)
    (me : AreMarked entered (IsEntered code)) (ms : AreMarked started (IsLabelStart starts)) (h : AreTurnedTo code entered started draft gone some (length code)) where
  one : (x : ℕ) → x + 1 ≡ suc x
  one x = omega arith

  two : (x : ℕ) → x + 2 ≡ suc (suc x)
  two x = omega arith

  unmarked : (marks : List Bool) (P : ℕ → Type 0) (y : ℕ) → AreMarked marks P → slice_index_or marks y false ≡ false → ¬ P y
  unmarked marks P y m none p = false≢true (sym none ∙ (m y).1 p)

  put-at : (x : ℕ) → is_gone gone (suc x) ≡ true → IsPutAt code entered started draft x
  put-at x g = (h.pair x g).1

  pair-at : (x : ℕ) → is_gone gone (suc x) ≡ true → IsPair code draft x
  pair-at x g =
      let p = put-at x g in record {
        condition = p.condition;
        near = suc (suc x);
        far = p.target;
        tests = p.over.tests;
        branch = p.over.branch ∙ ap (λ n. Some (Br p.condition n)) (two x);
        jump = ap (slice_get code) (sym (one x)) ∙ p.over.jump;
        branch' = p.branch;
        jump' = p.fills;
      }

  not-first : (y : ℕ) → is_gone gone y ≡ true → (x : ℕ) × (y ≡ suc x)
  not-first zero g = absurd (false≢true (sym h.first ∙ g))
  not-first (suc x) g = (x, refl)

  not-entered : (x : ℕ) → is_gone gone (suc x) ≡ true → ¬ IsEntered code (suc x)
  not-entered x g = unmarked entered (IsEntered code) (suc x) me (ap (λ n. slice_index_or entered n false) (sym (one x)) ∙ (put-at x g).over.not_entered)

  not-start : (x : ℕ) → is_gone gone (suc x) ≡ true → ¬ IsLabelStart starts (suc x)
  not-start x g = unmarked started (IsLabelStart starts) (suc x) ms (ap (λ n. slice_index_or started n false) (sym (one x)) ∙ (put-at x g).over.not_start)

  next-not-start : (x : ℕ) → is_gone gone (suc x) ≡ true → ¬ IsLabelStart starts (suc (suc x))
  next-not-start x g = unmarked started (IsLabelStart starts) (suc (suc x)) ms (ap (λ n. slice_index_or started n false) (sym (two x)) ∙ (put-at x g).over.next_not_start)

  kept-if : (y : ℕ) → ((x : ℕ) → y ≡ suc x → is_gone gone (suc x) ≡ true → ⊥) → is_gone gone y ≡ false
  kept-if y never = ⊎_elim
      (λ (g : is_gone gone y ≡ true). let z = not-first y g in absurd (never z.0 z.1 (ap (is_gone gone) (sym z.1) ∙ g)))
      (λ (k : is_gone gone y ≡ false). k)
      (gone-cases gone y)

  exchanged : AreExchanged code draft gone
  exchanged = record {
    first = h.first;
    pair = pair-at;
    same = h.same;
    apart = λ y e. kept-if y (λ x at g. not-entered x g (subst (IsEntered code) at e));
  }

  start-kept : (y : ℕ) → IsLabelStart starts y → is_gone gone y ≡ false
  start-kept y s = kept-if y (λ x at g. not-start x g (subst (IsLabelStart starts) at s))

  -- ---- lawful

  target-of : (n x y : ℕ) (c : Cond) → slice_get code x ≡ Some (Br c y) → y < length code
  target-of n x y c at = (lawful.each x (Br c y) at).target

  formed-branch : (c : Cond) (y : ℕ) → IsFormed (Br c y)
  formed-branch c y = record { operands = tt; run_inside = tt; pairs = tt; numbers = tt; halt = tt }

  law-branch : (x : ℕ) (p : IsPair code draft x) → IsLawfulWithin (length draft) x (Br (opposite p.condition) p.far)
  law-branch x p = record {
    formed = formed-branch (opposite p.condition) p.far;
    target = let lt = target-of 0 (suc x) p.far Always p.jump in let s = h.size in omega arith;
    last = λ end'. absurd (let w = slice_get_within code (suc x) (Br Always p.far) p.jump in let s = h.size in omega arith);
  }

  law-jump : (x : ℕ) (p : IsPair code draft x) → IsLawfulWithin (length draft) (suc x) (Br Always p.near)
  law-jump x p = record {
    formed = formed-branch Always p.near;
    target = let lt = target-of 0 x p.near p.condition p.branch in let s = h.size in omega arith;
    last = λ end'. tt;
  }

  law-at : (x : ℕ) (j : Instr) → slice_get draft x ≡ Some j → (is_gone gone x ≡ true) ⊎ (is_gone gone x ≡ false) → (is_gone gone (suc x) ≡ true) ⊎ (is_gone gone (suc x) ≡ false) → IsLawfulWithin (length draft) x j
  law-at zero j at (inl g) next = absurd (false≢true (sym h.first ∙ g))
  law-at (suc x) j at (inl g) next =
      let p = pair-at x g in
      subst (λ k. IsLawfulWithin (length draft) (suc x) k) (some-instr (Br Always p.near) j (sym p.jump' ∙ at)) (law-jump x p)
  law-at x j at (inr k) (inl g) =
      let p = pair-at x g in
      subst (λ l. IsLawfulWithin (length draft) x l) (some-instr (Br (opposite p.condition) p.far) j (sym p.branch' ∙ at)) (law-branch x p)
  law-at x j at (inr k) (inr k') = subst (λ n. IsLawfulWithin n x j) (sym h.size) (lawful.each x j (sym (h.same x k k') ∙ at))

  lawful-draft : IsProgram draft
  lawful-draft = record {
    some = let s = h.size in let m = lawful.some in omega arith;
    each = λ x j at. law-at x j at (gone-cases gone x) (gone-cases gone (suc x));
  }

  -- ---- it does what the code does

  begin-kept : (e : Engine) (p : Memories) → Begins e p → is_gone gone e.place ≡ false
  begin-kept e p b = ap (is_gone gone) b.place ∙ h.first

  start-at-kept : (k : ℕ) → k < length starts → is_gone gone (get_or starts k 0) ≡ false
  start-at-kept k lt = start-kept (get_or starts k 0) (start-at starts k lt)

  follows : Follows code draft starts starts
  follows = record {
    gives = λ e p b m. let t = through code draft gone exchanged m e p (begin-kept e p b) in (t.0, t.1.run);
    gives_only = λ e p b n. let t = through draft code gone (swapped code draft gone exchanged) n e p (begin-kept e p b) in (t.0, λ ws. sym (t.1.run ws));
    access = λ e p b m. let t = through code draft gone exchanged m e p (begin-kept e p b) in inr (t.0, t.1.access);
    access_only = λ e p b n. let t = through draft code gone (swapped code draft gone exchanged) n e p (begin-kept e p b) in (t.0, sym t.1.access);
    visits = λ e p b m. let t = through code draft gone exchanged m e p (begin-kept e p b) in (t.0, λ k lt. t.1.stood (get_or starts k 0) (start-at-kept k lt));
    visits_only = λ e p b n. let t = through draft code gone (swapped code draft gone exchanged) n e p (begin-kept e p b) in (t.0, λ k lt. sym (t.1.stood (get_or starts k 0) (start-at-kept k lt)));
  }

  -- ---- moves and starts

  lighter : (x : ℕ) (i : Instr) → slice_get code x ≡ Some i → (is_gone gone x ≡ true) ⊎ (is_gone gone x ≡ false) → (is_gone gone (suc x) ≡ true) ⊎ (is_gone gone (suc x) ≡ false) → (j : Instr) × (slice_get draft x ≡ Some j) × (weight j ≤ weight i)
  lighter zero i at (inl g) next = absurd (false≢true (sym h.first ∙ g))
  lighter (suc x) i at (inl g) next = let p = pair-at x g in (Br Always p.near, p.jump', omega arith)
  lighter x i at (inr k) (inl g) = let p = pair-at x g in (Br (opposite p.condition) p.far, p.branch', omega arith)
  lighter x i at (inr k) (inr k') = (i, h.same x k k' ∙ at, omega arith)

  last-at : (x : ℕ) (i : Instr) → slice_get code x ≡ Some i → IsLast i → IsLabelStart starts (suc x) → (is_gone gone x ≡ true) ⊎ (is_gone gone x ≡ false) → (slice_get draft x ≡ Some i) × (is_gone gone x ≡ false)
  last-at zero i at last start (inl g) = absurd (false≢true (sym h.first ∙ g))
  last-at (suc x) i at last start (inl g) = absurd (next-not-start x g start)
  last-at x i at last start (inr k) = (h.same x k (start-kept (suc x) start) ∙ at, k)

  pub turned-kept : IsKept code starts draft starts
  turned-kept = record {
    lawful = lawful-draft;
    count = refl;
    inside = λ k d lt. let s = h.size in let m = inside k d lt in omega arith;
    follows = follows;
    moves = λ ws. moves-lighter 0 code draft starts ws h.size (λ x i at. lighter x i at (gone-cases gone x) (gone-cases gone (suc x)));
    shape = λ shape. record {
      first = shape.first;
      rises = shape.rises;
      before = λ k some' lt.
          let b = shape.before k some' lt in
          let up : get_or starts 0 0 < get_or starts k 0 = shape.rises 0 k some' lt in
          let next : suc (get_or starts k 0 - 1) ≡ get_or starts k 0 = omega arith in
          let stay = last-at (get_or starts k 0 - 1) b.0 b.1 b.2 (subst (IsLabelStart starts) (sym next) (start-at starts k lt)) (gone-cases gone (get_or starts k 0 - 1)) in
          (b.0, stay.0, b.2);
    };
    most = let s = h.size in omega arith;
  }

  -- ---- what is gone may be taken out

  pub fillers : (x : ℕ) → is_gone gone x ≡ true → (slice_get draft x ≡ Some (filler x)) × (suc x < length draft)
  fillers zero g = absurd (false≢true (sym h.first ∙ g))
  fillers (suc x) g =
      let p = put-at x g in
      (p.fills, let t = target-of 0 x (x + 2) p.condition p.over.branch in let s = h.size in omega arith)

  pub pinned-kept : (s : ℕ) → IsPinned starts s → is_gone gone s ≡ false
  pinned-kept s (inl none) = ap (is_gone gone) none ∙ h.first
  pinned-kept s (inr start) = start-kept s start

  pub before-kept : (x : ℕ) → IsLabelStart starts (suc x) → is_gone gone x ≡ false
  before-kept x start = kept-if x (λ z at g. next-not-start z g (subst (λ n. IsLabelStart starts (suc n)) at start))

  -- ---- code without it

  pub none-left : some ≡ false → HasNoTurnable code starts
  none-left was x t = h.none was x t.condition t.target (slice_get_within code x (Br t.condition (x + 2)) t.branch) (record {
    tests = t.tests;
    branch = t.branch;
    jump = t.jump;
    not_entered = down entered (IsEntered code) (x + 1) me t.not_entered;
    not_start = down started (IsLabelStart starts) (x + 1) ms t.not_start;
    next_not_start = down started (IsLabelStart starts) (x + 2) ms t.next_not_start;
  })
    where
      down : (marks : List Bool) (P : ℕ → Type 0) (y : ℕ) → AreMarked marks P → ¬ P y → slice_index_or marks y false ≡ false
      down marks P y m never = by (slice_index_or marks y false) refl
        where
          by : (b : Bool) → slice_index_or marks y false ≡ b → slice_index_or marks y false ≡ false
          by true e = absurd (never ((m y).0 e))
          by false e = e

  -- the list of what is left
  lists : (f : ℕ → ℕ) (cs ds : List Instr) (gs : List Bool) → length ds ≡ length cs → length gs ≡ length cs → is_gone gs 0 ≡ false → ((x : ℕ) → is_gone gs (suc x) ≡ true → IsPair cs ds x)
      → ((x : ℕ) → is_gone gs x ≡ false → is_gone gs (suc x) ≡ false → slice_get ds x ≡ slice_get cs x) → IsTurned cs (compacted f gs ds)
  lists f [] [] [] sd sg first pair same = Nothing
  lists f [] (d ∷ ds) gs sd sg first pair same = absurd (omega arith)
  lists f [] [] (g ∷ gs) sd sg first pair same = absurd (omega arith)
  lists f (c ∷ cs) [] gs sd sg first pair same = absurd (omega arith)
  lists f (c ∷ cs) (d ∷ ds) [] sd sg first pair same = absurd (omega arith)
  lists f (c ∷ cs) (d ∷ ds) (true ∷ gs) sd sg first pair same = absurd (false≢true (sym first))
  lists f (c ∷ []) (d ∷ ds) (false ∷ []) sd sg first pair same =
      let e : d ≡ c = some-instr d c (same 0 refl refl) in
      let none : ds ≡ [] = nothing ds (omega arith) in
      subst (λ l. IsTurned (c ∷ []) (relocated f d ∷ [])) none (subst (λ k. IsTurned (c ∷ []) (relocated f k ∷ [])) (sym e) (Stays f c [] [] Nothing))
    where
      nothing : (l : List Instr) → length l ≡ 0 → l ≡ []
      nothing [] h = refl
      nothing (k ∷ l) h = absurd (omega arith)
  lists f (c ∷ []) (d ∷ ds) (false ∷ (g ∷ gs)) sd sg first pair same = absurd (omega arith)
  lists f (c ∷ (c2 ∷ cs)) (d ∷ ds) (false ∷ []) sd sg first pair same = absurd (omega arith)
  lists f (c ∷ (c2 ∷ cs)) (d ∷ []) (false ∷ (g ∷ gs)) sd sg first pair same = absurd (omega arith)
  lists f (c ∷ (c2 ∷ cs)) (d ∷ (d2 ∷ ds)) (false ∷ (true ∷ gs)) sd sg first pair same =
      let p = pair 0 refl in
      let one' : Br p.condition p.near ≡ c = some-instr (Br p.condition p.near) c (sym p.branch) in
      let two' : Br Always p.far ≡ c2 = some-instr (Br Always p.far) c2 (sym p.jump) in
      let three : Br (opposite p.condition) p.far ≡ d = some-instr (Br (opposite p.condition) p.far) d (sym p.branch') in
      let rest = lists f cs ds gs (omega arith) (omega arith) (clear gs (λ g. let q = pair 1 g in always-asks q.condition q.near p.far q.tests (some-instr (Br q.condition q.near) (Br Always p.far) (sym q.branch ∙ p.jump)))) (λ x g. after (pair (suc (suc x)) g)) (λ x k k'. same (suc (suc x)) k k') in
      subst (λ k. IsTurned (k ∷ (c2 ∷ cs)) (relocated f d ∷ compacted f gs ds)) one'
      (subst (λ k. IsTurned (Br p.condition p.near ∷ (k ∷ cs)) (relocated f d ∷ compacted f gs ds)) two'
      (subst (λ k. IsTurned (Br p.condition p.near ∷ (Br Always p.far ∷ cs)) (relocated f k ∷ compacted f gs ds)) three
      (Turned p.condition p.near p.far (f p.far) cs (compacted f gs ds) p.tests rest)))
    where
      clear : (l : List Bool) → (is_gone (true ∷ l) 1 ≡ true → ⊥) → is_gone l 0 ≡ false
      clear [] never = refl
      clear (true ∷ l) never = absurd (never refl)
      clear (false ∷ l) never = refl

      after : {x : ℕ} → IsPair (c ∷ (c2 ∷ cs)) (d ∷ (d2 ∷ ds)) (suc (suc x)) → IsPair cs ds x
      after q = record { condition = q.condition; near = q.near; far = q.far; tests = q.tests; branch = q.branch; jump = q.jump; branch' = q.branch'; jump' = q.jump' }
  lists f (c ∷ (c2 ∷ cs)) (d ∷ (d2 ∷ ds)) (false ∷ (false ∷ gs)) sd sg first pair same =
      let e : d ≡ c = some-instr d c (same 0 refl refl) in
      let rest = lists f (c2 ∷ cs) (d2 ∷ ds) (false ∷ gs) (omega arith) (omega arith) refl (λ x g. after (pair (suc x) g)) (λ x k k'. same (suc x) k k') in
      subst (λ k. IsTurned (c ∷ (c2 ∷ cs)) (relocated f k ∷ compacted f (false ∷ gs) (d2 ∷ ds))) (sym e) (Stays f c (c2 ∷ cs) (compacted f (false ∷ gs) (d2 ∷ ds)) rest)
    where
      after : {x : ℕ} → IsPair (c ∷ (c2 ∷ cs)) (d ∷ (d2 ∷ ds)) (suc x) → IsPair (c2 ∷ cs) (d2 ∷ ds) x
      after q = record { condition = q.condition; near = q.near; far = q.far; tests = q.tests; branch = q.branch; jump = q.jump; branch' = q.branch'; jump' = q.jump' }

  pub turned-list : (next : List Instr) → next ≡ compacted (kept_before gone) gone draft → IsTurned code next
  turned-list next is = subst (IsTurned code) (sym is) (lists (kept_before gone) code draft gone h.size h.size_gone h.first pair-at h.same)
