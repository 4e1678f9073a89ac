-- A whole round.
use Rattle.std.proofs.Common.{◌≡◌, ℕ, zero, suc, ◌+◌, ◌-◌, ◌*◌, ◌<◌, ◌≤◌, ◌⊎◌, inl, inr, ⊎_elim, Bool, true, false, ◌||◌, List, [], ◌∷◌, length, get_or, take, drop, map, Some, None, All, nat_eq, refl, sym, ap, ◌∙◌, subst, arith, le-leb, eqb-true, eq-eqb}
use Rattle.std.specs.Prelude.{◌↔◌, slice_get, slice_index_or, nat_le}
use Rattle.std.specs.List.{list_any}
use Rattle.std.proofs.lemmas.Bool.{false≢true, cases_lt, or_cases, lt-leb}
use Rattle.std.proofs.lemmas.Option.{slice_get-get_or, slice_get_within}
use Rattle.nv_base.specs.Memories.{Memories}
use Rattle.uc_isa.specs.Lawful.{IsLast, Rule5}
use Rattle.uc_isa.specs.Moves.{label_weight, moves, moves_from, weight}
use Rattle.uc_isa.specs.declared.engine.Engine.{Engine}
use Rattle.uc_isa.specs.declared.instruction.Instr.{Instr}
use Rattle.uc_isa.specs.declared.instruction.Instr.TheVariants.{Alu, Br, Halt, Immed, Read, Un, Write}
use Rattle.uc_peep.proofs.Compaction.{IsCompaction, access-back, access-there, gives-back, gives-there, stood-back, stood-there}
use Rattle.uc_peep.proofs.Counts.{gone-next, kept-at, kept-between, kept-most, kept-next, kept-zero, length-compacted}
use Rattle.uc_peep.proofs.Marking.{compacted-end, compacted-kept, compacted-next}
use Rattle.uc_peep.proofs.Replaced.{all-at, gone-cases, length-text, next-cases, text-at}
use Rattle.uc_peep.specs.Draft.{AreMarked, AreSettledFrom, IsDraft, IsFallThrough, MayReplace}
use Rattle.uc_peep.proofs.Without.{compacted-kept_of}
use Rattle.uc_peep.specs.Rewrites.{Answers, Rewrites}
use Rattle.uc_peep.specs.Rewrites.Rewrites.{Relocated, InTurn}
use Rattle.uc_peep.specs.Kept.{compacted, is_gone, kept_before, kept_of}
use Rattle.uc_peep.specs.Liveness.{IsLiveAt}
use Rattle.uc_peep.specs.Becomes.{IsKept, IsSettled}
use Rattle.uc_peep.specs.Window.{IsPinned, IsWindow, filler}
use Rattle.uc_isa.proofs.Costs.{label-moved}
use Rattle.uc_isa.proofs.Following.{agrees-back, agrees-there, follows-refl, follows-trans}
use Rattle.uc_isa.specs.Agrees.{Agrees, SourceMeaning}
use Rattle.uc_isa.specs.Code.{CodeView}
use Rattle.uc_isa.proofs.Relocation.{relocated-formed, relocated-last, relocated-target, relocated-weight}
use Rattle.uc_isa.specs.Alike.{Begins, Follows}
use Rattle.uc_isa.specs.Program.{IsLawfulWithin, IsProgram}
use Rattle.uc_isa.specs.Relocated.{at_place, moved, relocated}
use Rattle.uc_isa.specs.Starts.{AreInside, HasShape, IsLabelStart}
use Rattle.uc_isa.specs.StraightCode.{GoesTo, IsEntered, IsStraight}
use Rattle.uc_isa.specs.Visits.{access_at, stood}

-- ---- branches go inside

pub targets-inside : (code : List Instr) (len : ℕ) → IsProgram code → len ≡ length code → All (Rule5 len) code
targets-inside code len lawful e = λ k d lt. subst (λ n. Rule5 n (get_or code k d)) (sym e) (lawful.each k (get_or code k d) (slice_get-get_or code k d lt)).target

wider : (len len' : ℕ) (i : Instr) → len ≤ len' → Rule5 len i → Rule5 len' i
wider len len' (Alu d op x y) le h = tt
wider len len' (Un d op x) le h = tt
wider len len' (Immed d v sh) le h = tt
wider len len' (Br b t) le h = omega arith
wider len len' (Read m r n x off) le h = tt
wider len len' (Write m r n x off) le h = tt
wider len len' (Halt k n) le h = tt

pub targets-counted : (draft : List Instr) (len : ℕ) → IsProgram draft → len ≡ length draft + 1 → All (Rule5 len) draft
targets-counted draft len lawful e = λ k d lt. wider (length draft) len (get_or draft k d) (omega arith) (lawful.each k (get_or draft k d) (slice_get-get_or draft k d lt)).target

-- ---- no answer is due

straight-goes : (i : Instr) → IsStraight i → ¬ IsLast i
straight-goes (Alu d op x y) s l = l
straight-goes (Un d op x) s l = l
straight-goes (Immed d v sh) s l = l
straight-goes (Br b t) s l = s
straight-goes (Read m r n x off) s l = s
straight-goes (Write m r n x off) s l = s
straight-goes (Halt k n) s l = s

flag-down : (marks : List Bool) (P : ℕ → Type 0) (y : ℕ) → AreMarked marks P → ¬ P y → slice_index_or marks y false ≡ false
flag-down marks P y h no' = by (slice_index_or marks y false) refl
  where
    by : (b : Bool) → slice_index_or marks y false ≡ b → slice_index_or marks y false ≡ false
    by true e = absurd (no' ((h y).0 e))
    by false e = e

pub settled-by : (answers : Answers) (code : List Instr) (starts : List ℕ) (entered started gone : List Bool) (sets : List ℕ) → IsProgram code → ((x : ℕ) → is_gone gone x ≡ false) → AreMarked entered (IsEntered code) → AreMarked started (IsLabelStart starts) → ((x : ℕ) → IsLiveAt code x (get_or sets x 0))
    → AreSettledFrom answers code gone entered started sets 0 → IsSettled answers code starts
settled-by answers code starts entered started gone sets lawful kept me ms live settled = λ p k w.
    (get_or sets (p + k) 0, live (p + k), settled p k (omega arith) (let a = w.inside in let b = w.some in omega arith) w.some (let f = w.few in omega arith) (may p k w))
  where
    straight-at : (p k : ℕ) → IsWindow code starts p k → (x : ℕ) → p ≤ x → x < p + k → (i : Instr) × (slice_get code x ≡ Some i) × IsStraight i
    straight-at p k w x le lt =
        let d : ℕ = x - p in
        let e : p + (x - p) ≡ x = omega arith in
        let size = length-text code p k w.inside in
        let at : slice_get (take k (drop p code)) (x - p) ≡ Some (get_or (take k (drop p code)) (x - p) (Halt 0 0)) = slice_get-get_or (take k (drop p code)) (x - p) (Halt 0 0) (omega arith) in
        (get_or (take k (drop p code)) (x - p) (Halt 0 0), ap (slice_get code) (sym e) ∙ sym (text-at code p k (x - p) (omega arith)) ∙ at, all-at IsStraight (take k (drop p code)) (x - p) _ w.straight at)

    quiet : (y : ℕ) → ¬ IsEntered code y → ¬ IsLabelStart starts y → IsFallThrough entered started y
    quiet y a b = (flag-down entered (IsEntered code) y me a, flag-down started (IsLabelStart starts) y ms b)

    inside' : (p k : ℕ) → IsWindow code starts p k → p + k < length code
    inside' p k w = ⊎_elim (λ (lt : p + k < length code). lt) (λ (le : length code ≤ p + k).
        let some = w.some in
        let in' = w.inside in
        let s = straight-at p k w (p + k - 1) (omega arith) (omega arith) in
        absurd (straight-goes s.0 s.2 ((lawful.each (p + k - 1) s.0 s.1).last (omega arith)))) (cases_lt (p + k) (length code))

    pin : (p : ℕ) → (p ≡ 0) ⊎ (slice_index_or started p false ≡ true) → IsPinned starts p
    pin p (inl e) = inl e
    pin p (inr e) = inr ((ms p).0 e)

    may : (p k : ℕ) → IsWindow code starts p k → MayReplace code gone entered started p k
    may p k w = record {
      inside = inside' p k w;
      open_ = λ x le lt. let s = straight-at p k w x le lt in (record { instruction = s.0; there = s.1; straight = s.2; kept = kept x }, λ past. quiet x (w.interior x past lt).0 (w.interior x past lt).1);
      clear_end = λ e. (λ st. flag-down entered (IsEntered code) (p + k) me (w.clear_end.0 ((ms p).0 st)), flag-down started (IsLabelStart starts) (p + k) ms (w.clear_end.1 (pin p e)), kept (p + k));
    }

-- ---- relocation by counts

relocated-same : (f g : ℕ → ℕ) (n : ℕ) (i : Instr) → ((t : ℕ) → t < n → f t ≡ g t) → Rule5 n i → relocated f i ≡ relocated g i
relocated-same f g n (Alu d op x y) h t = refl
relocated-same f g n (Un d op x) h t = refl
relocated-same f g n (Immed d v sh) h t = refl
relocated-same f g n (Br b t) h lt = ap (λ m. Br b m) (h t lt)
relocated-same f g n (Read m r j x off) h t = refl
relocated-same f g n (Write m r j x off) h t = refl
relocated-same f g n (Halt k j) h t = refl

compacted-same : (f g : ℕ → ℕ) (n : ℕ) (gone : List Bool) (code : List Instr) → ((t : ℕ) → t < n → f t ≡ g t) → ((k : ℕ) (i : Instr) → slice_get code k ≡ Some i → Rule5 n i) → compacted f gone code ≡ compacted g gone code
compacted-same f g n [] code h t = refl
compacted-same f g n (b ∷ gone) [] h t = refl
compacted-same f g n (true ∷ gone) (i ∷ code) h t = compacted-same f g n gone code h (λ k. t (suc k))
compacted-same f g n (false ∷ gone) (i ∷ code) h t = ap (λ j. j ∷ compacted f gone code) (relocated-same f g n i h (t 0 i refl)) ∙ ap (λ l. relocated g i ∷ l) (compacted-same f g n gone code h (λ k. t (suc k)))

-- where an instruction that is kept comes from
kept-from : (f : ℕ → ℕ) (gone : List Bool) (code : List Instr) (y : ℕ) (j : Instr) → slice_get (compacted f gone code) y ≡ Some j
    → (x : ℕ) × (i : Instr) × (slice_get code x ≡ Some i) × (is_gone gone x ≡ false) × (kept_before gone x ≡ y) × (relocated f i ≡ j)
kept-from f [] code y j at = cc
kept-from f (b ∷ gone) [] y j at = cc
kept-from f (true ∷ gone) (i ∷ code) y j at = let h = kept-from f gone code y j at in (suc h.0, h.1, h.2, h.3, h.4, h.5)
kept-from f (false ∷ gone) (i ∷ code) zero j at = let e : relocated f i ≡ j = cc in (0, i, refl, refl, refl, e)
kept-from f (false ∷ gone) (i ∷ code) (suc y) j at = let h = kept-from f gone code y j at in (suc h.0, h.1, h.2, h.3, ap suc h.4, h.5)

counted-most : (gone : List Bool) (x d : ℕ) → kept_before gone (d + x) ≤ kept_before gone x + d
counted-most gone x zero = let e : 0 + x ≡ x = omega arith in subst (λ n. kept_before gone n ≤ kept_before gone x + 0) (sym e) (omega arith)
counted-most gone x (suc d) =
    let e : suc d + x ≡ suc (d + x) = omega arith in
    let h = counted-most gone x d in
    let s = step-most gone (d + x) in
    subst (λ n. kept_before gone n ≤ kept_before gone x + suc d) (sym e) (omega arith)
  where
    step-most : (gone : List Bool) (x : ℕ) → kept_before gone (suc x) ≤ suc (kept_before gone x)
    step-most [] x = omega arith
    step-most (true ∷ gone) zero = let z = kept-zero gone in omega arith
    step-most (false ∷ gone) zero = let z = kept-zero gone in omega arith
    step-most (true ∷ gone) (suc x) = step-most gone x
    step-most (false ∷ gone) (suc x) = let h = step-most gone x in omega arith

counted-below : (gone : List Bool) (x : ℕ) → kept_before gone x ≤ x
counted-below gone x = let z = kept-zero gone in let h = counted-most gone 0 x in let e : x + 0 ≡ x = omega arith in let same = ap (kept_before gone) e in omega arith

-- ---- starts

start-inside : (n : ℕ) (starts : List ℕ) (s : ℕ) → All (λ t. t < n) starts → IsLabelStart starts s → s < n
start-inside n [] s all is = absurd (false≢true is)
start-inside n (t ∷ starts) s all is = ⊎_elim
    (λ (e : nat_eq s t ≡ true). subst (λ x. x < n) (sym (eqb-true s t e)) (all 0 0 (let some : 0 < length (t ∷ starts) = omega arith in some)))
    (λ (h : list_any (λ x. nat_eq s x) starts ≡ true). start-inside n starts s (λ k d lt. all (suc k) d (omega arith)) h)
    (or_cases (nat_eq s t) (list_any (λ x. nat_eq s x) starts) is)

start-at : (starts : List ℕ) (k : ℕ) → k < length starts → IsLabelStart starts (get_or starts k 0)
start-at [] k lt = absurd (omega arith)
start-at (t ∷ starts) zero lt = ap (λ b. b || list_any (λ x. nat_eq t x) starts) (eq-eqb t t refl)
start-at (t ∷ starts) (suc k) lt = ap (λ b. nat_eq (get_or starts k 0) t || b) (start-at starts k (omega arith)) ∙ Rattle.std.proofs.Math.Bool.or-true (nat_eq (get_or starts k 0) t)

mapped-at : (f : ℕ → ℕ) (starts : List ℕ) (k : ℕ) → k < length starts → get_or (map f starts) k 0 ≡ f (get_or starts k 0)
mapped-at f [] k lt = absurd (omega arith)
mapped-at f (t ∷ starts) zero lt = refl
mapped-at f (t ∷ starts) (suc k) lt = mapped-at f starts k (omega arith)

length-mapped : (f : ℕ → ℕ) (starts : List ℕ) → length (map f starts) ≡ length starts
length-mapped f [] = refl
length-mapped f (t ∷ starts) = ap suc (length-mapped f starts)

mapped-inside : (f : ℕ → ℕ) (n m : ℕ) (starts : List ℕ) → ((t : ℕ) → t < n → f t < m) → All (λ t. t < n) starts → All (λ t. t < m) (map f starts)
mapped-inside f n m [] h all = λ k d lt. absurd (omega arith)
mapped-inside f n m (t ∷ starts) h all = λ k d lt. at (mapped-inside f n m starts h (λ j e l. all (suc j) e (omega arith))) k d lt
  where
    at : All (λ x. x < m) (map f starts) → (k d : ℕ) → k < length (map f (t ∷ starts)) → get_or (map f (t ∷ starts)) k d < m
    at rest zero d lt = h t (all 0 0 (let some : 0 < length (t ∷ starts) = omega arith in some))
    at rest (suc k) d lt = rest k d (omega arith)

start-decide : (starts : List ℕ) (s : ℕ) → IsLabelStart starts s ⊎ ¬ IsLabelStart starts s
start-decide starts s = by (list_any (λ x. nat_eq s x) starts) refl
  where
    by : (b : Bool) → list_any (λ x. nat_eq s x) starts ≡ b → IsLabelStart starts s ⊎ ¬ IsLabelStart starts s
    by true e = inl e
    by false e = inr (λ is. false≢true (sym e ∙ is))

-- ---- code without what is gone

module _ (code : List Instr) (starts : List ℕ) (draft : List Instr) (gone : List Bool) (inside : AreInside code starts) (d : IsDraft code starts draft gone) where
  abbrev to : ℕ → ℕ
  to x = kept_before gone x

  abbrev pub code' : List Instr
  code' = compacted to gone draft

  size : length gone ≡ length draft
  size = d.size_gone ∙ sym d.size

  size' : length code' ≡ to (length draft)
  size' = length-compacted to gone draft size

  last-kept : (n : ℕ) → suc n ≡ length draft → is_gone gone n ≡ false
  last-kept n e = ⊎_elim (λ (g : is_gone gone n ≡ true). absurd (let f = (d.fillers n g).1 in let s = d.size in omega arith)) (λ (k : is_gone gone n ≡ false). k) (gone-cases gone n)

  to-inside : (t : ℕ) → t < length draft → to t < length code'
  to-inside t lt =
      let n : ℕ = length draft - 1 in
      let e : suc (length draft - 1) ≡ length draft = omega arith in
      let k = last-kept (length draft - 1) e in
      let b = kept-between gone t (length draft - 1) (length draft) (omega arith) (omega arith) (let s = size in omega arith) k in
      let s = size' in
      omega arith

  lawful-code' : IsProgram code'
  lawful-code' = record {
    some = let h = to-inside 0 (let s = d.lawful.some in omega arith) in omega arith;
    each = λ y j at. each y j (kept-from to gone draft y j at);
  }
    where
      each : (y : ℕ) (j : Instr) → (x : ℕ) × (i : Instr) × (slice_get draft x ≡ Some i) × (is_gone gone x ≡ false) × (to x ≡ y) × (relocated to i ≡ j) → IsLawfulWithin (length code') y j
      each y j (x, i, at, kept, place, same) =
          let law = d.lawful.each x i at in
          subst (λ k. IsLawfulWithin (length code') y k) same (record {
            formed = relocated-formed to i law.formed;
            target = relocated-target to (length draft) (length code') i to-inside law.target;
            last = λ end'. relocated-last to i (law.last (ends x y kept place end' (slice_get_within draft x i at)));
          })
        where
          ends : (x y : ℕ) → is_gone gone x ≡ false → to x ≡ y → y + 1 ≡ length code' → x < length draft → x + 1 ≡ length draft
          ends x y kept place end' lt = ⊎_elim
              (λ (more : x + 1 < length draft).
              let e : suc (length draft - 1) ≡ length draft = omega arith in
              let k = last-kept (length draft - 1) e in
              let s = size in
              let next = kept-next gone x (omega arith) kept in
              let b = kept-between gone (suc x) (length draft - 1) (length draft) (omega arith) (omega arith) (omega arith) k in
              let z = size' in
              absurd (omega arith))
              (λ (le : length draft ≤ x + 1). omega arith)
              (cases_lt (x + 1) (length draft))

  compaction : IsCompaction draft code' gone (IsLabelStart starts)
  compaction = record {
    size = size;
    lawful = d.lawful;
    is_code = refl;
    fillers = λ x g. let f = d.fillers x g in (f.0, let s = d.size in let l = f.1 in omega arith);
    entry = λ s x y i start at kept next lt same. entry s x y i start at kept lt same (next-cases i x y next);
  }
    where
      entry : (s x y : ℕ) (i : Instr) → IsLabelStart starts s → slice_get draft x ≡ Some i → is_gone gone x ≡ false → s < y → to y ≡ to s → (y ≡ x + 1) ⊎ (GoesTo i y × ¬ IsStraight i) → ⊥
      entry s x y i start at kept lt same (inl e) =
          let b = kept-between gone s x y (omega arith) (omega arith) (let w = slice_get_within draft x i at in let z = size in omega arith) kept in
          omega arith
      entry s x y i start at kept lt same (inr g) =
          let old : slice_get code x ≡ Some i = d.old x i kept g.1 at in
          let y-in : y < length code = goes-inside i y (slice_get_within draft x i at) at g.0 in
          let z = d.apart s y (inr start) lt y-in (inl (start, (x, i, old, g.0))) in
          let b = kept-between gone s z.0 y z.1 z.2 (let w = z.2 in let q = d.size_gone in omega arith) z.3 in
          omega arith
        where
          goes-in : (j : Instr) (y n : ℕ) → GoesTo j y → Rule5 n j → y < n
          goes-in (Br b t) y n g h = omega (arith, g)
          goes-in (Alu d op q v) y n g h = absurd g
          goes-in (Un d op q) y n g h = absurd g
          goes-in (Immed d v sh) y n g h = absurd g
          goes-in (Read m q l a off) y n g h = absurd g
          goes-in (Write m q l a off) y n g h = absurd g
          goes-in (Halt l q) y n g h = absurd g

          goes-inside : (j : Instr) (y : ℕ) → x < length draft → slice_get draft x ≡ Some j → GoesTo j y → y < length code
          goes-inside j y lt at g = let h = goes-in j y (length draft) g ((d.lawful.each x j at).target) in let s = d.size in omega arith

  apart-starts : (x s : ℕ) → (x ≡ 0) ⊎ IsLabelStart starts x → IsLabelStart starts s → x < s → ¬ (to x ≡ to s)
  apart-starts x s pinned start lt same =
      let z = d.apart x s pinned lt (start-inside (length code) starts s inside start) (inr start) in
      let b = kept-between gone x z.0 s z.1 z.2 (let w = z.2 in let i = start-inside (length code) starts s inside start in let q = d.size_gone in omega arith) z.3 in
      omega arith

  begin-inside : (e : Engine) (ms : Memories) → Begins e ms → e.place < length draft
  begin-inside e ms b = let p = b.place in let s = d.lawful.some in omega arith

  at-zero : (e : Engine) (ms : Memories) → Begins e ms → moved to e ≡ e
  at-zero e ms b = ap (λ x. at_place x e) (ap to b.place ∙ kept-zero gone ∙ sym b.place)

  kept-stood : (e : Engine) (ms : Memories) (m n : ℕ) → Begins e ms → ((s : ℕ) → IsLabelStart starts s → stood draft s m e ms ≡ stood code' (to s) n (moved to e) ms) → (k : ℕ) → k < length starts → stood code (get_or starts k 0) m e ms ≡ stood code' (get_or (map to starts) k 0) n e ms
  kept-stood e ms m n b h k lt =
      (d.alike e ms b).stood (get_or starts k 0) m
      ∙ h (get_or starts k 0) (start-at starts k lt)
      ∙ ap (λ x. stood code' (to (get_or starts k 0)) n x ms) (at-zero e ms b)
      ∙ sym (ap (λ p. stood code' p n e ms) (mapped-at to starts k lt))

  pub kept-follows : Follows code code' starts (map to starts)
  kept-follows = record {
    gives = λ e ms b m. let h = gives-there draft code' gone (IsLabelStart starts) compaction m e ms b.place (begin-inside e ms b) in (h.0, λ ws. (d.alike e ms b).run m ws ∙ h.1 ws);
    gives_only = λ e ms b n. let h = gives-back draft code' gone (IsLabelStart starts) compaction n e ms b.place (begin-inside e ms b) in (h.0, λ ws. (d.alike e ms b).run h.0 ws ∙ h.1 ws);
    access = λ e ms b m. ⊎_elim
        (λ (none : access_at draft m e ms ≡ None). inl ((d.alike e ms b).access m ∙ none))
        (λ (some : (n : ℕ) × (access_at draft m e ms ≡ access_at code' n e ms)). inr (some.0, (d.alike e ms b).access m ∙ some.1))
        (access-there draft code' gone (IsLabelStart starts) compaction m e ms b.place (begin-inside e ms b));
    access_only = λ e ms b n. let h = access-back draft code' gone (IsLabelStart starts) compaction n e ms b.place (begin-inside e ms b) in (h.0, (d.alike e ms b).access h.0 ∙ h.1);
    visits = λ e ms b m. let h = stood-there draft code' gone (IsLabelStart starts) compaction apart-starts (start-decide starts) m e ms b.place (begin-inside e ms b) in (h.0, kept-stood e ms m h.0 b h.1);
    visits_only = λ e ms b n. let h = stood-back draft code' gone (IsLabelStart starts) compaction n e ms b.place (begin-inside e ms b) in (h.0, kept-stood e ms h.0 n b h.1);
  }

  -- ---- moves

  le-moved : (s x : ℕ) → x < length gone → is_gone gone x ≡ false → nat_le (to s) (to x) ≡ nat_le s x
  le-moved s x lt kept = ⊎_elim
      (λ (past : x < s). lt-leb (to s) (to x) (kept-between gone x x s (omega arith) past lt kept) ∙ sym (lt-leb s x past))
      (λ (le : s ≤ x). le-leb (to s) (to x) (kept-most gone s x le) ∙ sym (le-leb s x le))
      (cases_lt x s)

  drop-next : (x : ℕ) (i : Instr) → slice_get draft x ≡ Some i → drop x draft ≡ i ∷ drop (suc x) draft
  drop-next x i at = by draft x at
    where
      by : (l : List Instr) (x : ℕ) → slice_get l x ≡ Some i → drop x l ≡ i ∷ drop (suc x) l
      by [] x at = cc
      by (j ∷ l) zero at = let e : j ≡ i = cc in ap (λ k. k ∷ l) e ∙ ap (λ m. i ∷ m) (start l)
        where
          start : (l : List Instr) → l ≡ drop 0 l
          start [] = refl
          start (j ∷ l) = refl
      by (j ∷ l) (suc x) at = by l x at

  drop-end : (x : ℕ) → length draft ≤ x → drop x draft ≡ []
  drop-end x h = by draft x h
    where
      by : (l : List Instr) (x : ℕ) → length l ≤ x → drop x l ≡ []
      by [] zero h = refl
      by [] (suc x) h = refl
      by (j ∷ l) zero h = absurd (omega arith)
      by (j ∷ l) (suc x) h = by l x (omega arith)

  moves-past : (x : ℕ) (ws : List ℕ) → length draft ≤ x → moves_from (to x) (compacted to (drop x gone) (drop x draft)) (map to starts) ws ≡ moves_from x (drop x draft) starts ws
  moves-past x ws le = ap (λ l. moves_from (to x) l (map to starts) ws) (compacted-end to gone draft x size le) ∙ sym (ap (λ l. moves_from x l starts ws) (drop-end x le))

  moves-gone : (x : ℕ) (ws : List ℕ) → is_gone gone x ≡ true
      → moves_from (to (suc x)) (compacted to (drop (suc x) gone) (drop (suc x) draft)) (map to starts) ws ≡ moves_from (suc x) (drop (suc x) draft) starts ws
      → moves_from (to x) (compacted to (drop x gone) (drop x draft)) (map to starts) ws ≡ moves_from x (drop x draft) starts ws
  moves-gone x ws g rest =
      let f = (d.fillers x g).0 in
      let one : moves_from x (drop x draft) starts ws ≡ 0 * label_weight 1 starts ws x + moves_from (suc x) (drop (suc x) draft) starts ws = ap (λ l. moves_from x l starts ws) (drop-next x (filler x) f) in
      let two : moves_from (to x) (compacted to (drop x gone) (drop x draft)) (map to starts) ws ≡ moves_from (to (suc x)) (compacted to (drop (suc x) gone) (drop (suc x) draft)) (map to starts) ws =
      ap (λ l. moves_from (to x) l (map to starts) ws) (compacted-next to gone draft x (filler x) size f g)
      ∙ ap (λ n. moves_from n (compacted to (drop (suc x) gone) (drop (suc x) draft)) (map to starts) ws) (sym (gone-next gone x g)) in
      omega arith

  moves-kept : (x : ℕ) (ws : List ℕ) → x < length draft → is_gone gone x ≡ false
      → moves_from (to (suc x)) (compacted to (drop (suc x) gone) (drop (suc x) draft)) (map to starts) ws ≡ moves_from (suc x) (drop (suc x) draft) starts ws
      → moves_from (to x) (compacted to (drop x gone) (drop x draft)) (map to starts) ws ≡ moves_from x (drop x draft) starts ws
  moves-kept x ws lt k rest =
      let i : Instr = get_or draft x (Halt 0 0) in
      let at : slice_get draft x ≡ Some (get_or draft x (Halt 0 0)) = slice_get-get_or draft x (Halt 0 0) lt in
      let in' : x < length gone = let s = size in omega arith in
      ap (λ l. moves_from (to x) l (map to starts) ws) (compacted-kept to gone draft x (get_or draft x (Halt 0 0)) size at k)
      ∙ ap (λ w. w * label_weight 1 (map to starts) ws (to x) + moves_from (suc (to x)) (compacted to (drop (suc x) gone) (drop (suc x) draft)) (map to starts) ws) (relocated-weight to (get_or draft x (Halt 0 0)))
      ∙ ap (λ w. weight (get_or draft x (Halt 0 0)) * w + moves_from (suc (to x)) (compacted to (drop (suc x) gone) (drop (suc x) draft)) (map to starts) ws) (label-moved to 1 x starts ws (λ s is. le-moved s x in' k))
      ∙ ap (λ n. weight (get_or draft x (Halt 0 0)) * label_weight 1 starts ws x + moves_from n (compacted to (drop (suc x) gone) (drop (suc x) draft)) (map to starts) ws) (sym (kept-next gone x in' k))
      ∙ ap (λ n. weight (get_or draft x (Halt 0 0)) * label_weight 1 starts ws x + n) rest
      ∙ sym (ap (λ l. moves_from x l starts ws) (drop-next x (get_or draft x (Halt 0 0)) at))

  moves-onward : (n x : ℕ) (ws : List ℕ) → length draft ≤ x + n → moves_from (to x) (compacted to (drop x gone) (drop x draft)) (map to starts) ws ≡ moves_from x (drop x draft) starts ws
  moves-onward zero x ws far = moves-past x ws (omega arith)
  moves-onward (suc n) x ws far = ⊎_elim
      (λ (lt : x < length draft).
      let rest = moves-onward n (suc x) ws (omega arith) in
      ⊎_elim (λ (g : is_gone gone x ≡ true). moves-gone x ws g rest) (λ (k : is_gone gone x ≡ false). moves-kept x ws lt k rest) (gone-cases gone x))
      (λ (le : length draft ≤ x). moves-past x ws le) (cases_lt x (length draft))

  kept-moves : (ws : List ℕ) → moves code' (map to starts) ws ≡ moves draft starts ws
  kept-moves ws =
      ap (λ n. moves_from n code' (map to starts) ws) (sym (kept-zero gone))
      ∙ ap (λ l. moves_from (to 0) (compacted to l draft) (map to starts) ws) (start gone)
      ∙ ap (λ l. moves_from (to 0) (compacted to (drop 0 gone) l) (map to starts) ws) (start' draft)
      ∙ moves-onward (length draft) 0 ws (omega arith)
      ∙ ap (λ l. moves_from 0 l starts ws) (sym (start' draft))
    where
      start : (l : List Bool) → l ≡ drop 0 l
      start [] = refl
      start (j ∷ l) = refl

      start' : (l : List Instr) → l ≡ drop 0 l
      start' [] = refl
      start' (j ∷ l) = refl

  first-moved : (l : List ℕ) → ((s : ℕ) → slice_get l 0 ≡ Some s → s ≡ 0) → (s : ℕ) → slice_get (map to l) 0 ≡ Some s → s ≡ 0
  first-moved [] h s at = cc
  first-moved (t ∷ l) h s at =
      let e : to t ≡ s = cc in
      let z : t ≡ 0 = h t refl in
      sym e ∙ ap to z ∙ kept-zero gone

  last-crooked : (i : Instr) → IsLast i → ¬ IsStraight i
  last-crooked i l s = straight-goes i s l

  start-in : (k : ℕ) → k < length starts → get_or starts k 0 < length code
  start-in k lt = start-inside (length code) starts (get_or starts k 0) inside (start-at starts k lt)

  kept-shape : HasShape code starts → HasShape code' (map to starts)
  kept-shape h = record {
    first = first-moved starts h.first;
    rises = λ j k lt in'. rises j k lt (let s = length-mapped to starts in omega arith);
    before = λ k some in'. before_moved k some (let s = length-mapped to starts in omega arith);
  }
    where
      rises : (j k : ℕ) → j < k → k < length starts → get_or (map to starts) j 0 < get_or (map to starts) k 0
      rises j k lt in' =
          let z = d.apart (get_or starts j 0) (get_or starts k 0) (inr (start-at starts j (omega arith))) (h.rises j k lt in') (start-in k in') (inr (start-at starts k in')) in
          let b = kept-between gone (get_or starts j 0) z.0 (get_or starts k 0) z.1 z.2 (let w = z.2 in let i = start-in k in' in let q = d.size_gone in omega arith) z.3 in
          let one = mapped-at to starts j (omega arith) in
          let two = mapped-at to starts k in' in
          omega arith

      before_moved : (k : ℕ) → 0 < k → k < length starts → (i : Instr) × (slice_get code' (get_or (map to starts) k 0 - 1) ≡ Some i) × IsLast i
      before_moved k some in' =
          let l = h.before k some in' in
          let s : ℕ = get_or starts k 0 in
          let up : get_or starts 0 0 < get_or starts k 0 = h.rises 0 k some in' in
          let stay = d.stays (get_or starts k 0 - 1) l.0 (last-crooked l.0 l.2) l.1 in
          let next : suc (get_or starts k 0 - 1) ≡ get_or starts k 0 = omega arith in
          let step = kept-next gone (get_or starts k 0 - 1) (let i = start-in k in' in let q = d.size_gone in omega arith) stay.1 in
          let same = ap to next in
          let at = mapped-at to starts k in' in
          let place : get_or (map to starts) k 0 - 1 ≡ to (get_or starts k 0 - 1) = omega arith in
          (relocated to l.0, ap (slice_get code') place ∙ kept-at to gone draft (get_or starts k 0 - 1) l.0 size stay.0 stay.1, relocated-last to l.0 l.2)

  pub kept-all : IsKept code starts code' (map to starts)
  kept-all = record {
    lawful = lawful-code';
    count = length-mapped to starts;
    inside = mapped-inside to (length draft) (length code') starts to-inside (λ k e lt. let s = d.size in let h = inside k e lt in omega arith);
    follows = kept-follows;
    moves = λ ws. let m = kept-moves ws in let h = d.moves ws in omega arith;
    shape = kept-shape;
    most = let b = counted-below gone (length draft) in let s = size' in let t = d.size in omega arith;
  }

  pub kept-less : (x : ℕ) → is_gone gone x ≡ true → length code' < length code
  kept-less x g =
      let f = (d.fillers x g).1 in
      let next = gone-next gone x g in
      let b = counted-below gone x in
      let m = counted-most gone (suc x) (length draft - suc x) in
      let t = d.size in
      let e : (length draft - suc x) + suc x ≡ length draft = omega arith in
      let same = ap (kept_before gone) e in
      let s = size' in
      omega arith

-- the same where places are counted by a table
pub kept-code : (code : List Instr) (starts : List ℕ) (draft : List Instr) (gone : List Bool) (f : ℕ → ℕ) (next : List Instr) (moved' : List ℕ) → AreInside code starts → IsDraft code starts draft gone → ((x : ℕ) → x ≤ length gone → f x ≡ kept_before gone x) → next ≡ compacted f gone draft → moved' ≡ map f starts
    → IsKept code starts next moved' × (next ≡ compacted (kept_before gone) gone draft) × (moved' ≡ map (kept_before gone) starts)
kept-code code starts draft gone f next moved' inside d counts is-next is-moved =
    let codes : next ≡ compacted (kept_before gone) gone draft = is-next ∙ compacted-same f (kept_before gone) (length draft) gone draft (λ t lt. counts t (let a = d.size in let b = d.size_gone in omega arith)) (λ k i at. (d.lawful.each k i at).target) in
    let places : moved' ≡ map (kept_before gone) starts = is-moved ∙ mapped-same f (kept_before gone) (length code) starts (λ t lt. counts t (let b = d.size_gone in omega arith)) inside in (
      subst (λ l. IsKept code starts l moved') (sym codes) (subst (λ l. IsKept code starts (compacted (kept_before gone) gone draft) l) (sym places) (kept-all code starts draft gone inside d)),
      codes,
      places,
    )
  where
    mapped-same : (f g : ℕ → ℕ) (n : ℕ) (starts : List ℕ) → ((t : ℕ) → t < n → f t ≡ g t) → All (λ t. t < n) starts → map f starts ≡ map g starts
    mapped-same f g n [] h all = refl
    mapped-same f g n (t ∷ starts) h all = ap (λ y. y ∷ map f starts) (h t (all 0 0 (let some : 0 < length (t ∷ starts) = omega arith in some))) ∙ ap (λ l. g t ∷ l) (mapped-same f g n starts h (λ k e lt. all (suc k) e (omega arith)))

pub kept-round : (code : List Instr) (starts : List ℕ) (draft : List Instr) (gone : List Bool) (next : List Instr) (moved' : List ℕ) → AreInside code starts → IsDraft code starts draft gone → IsKept code starts next moved' → next ≡ compacted (kept_before gone) gone draft → (x : ℕ) × (is_gone gone x ≡ true) → (answers : Answers) → Rewrites answers code (kept_of gone draft)
    → IsKept code starts next moved' × (length next < length code) × Rewrites answers code next
kept-round code starts draft gone next moved' inside d kept is-next some answers rewritten = (
  kept,
  subst (λ l. length l < length code) (sym is-next) (kept-less code starts draft gone inside d some.0 some.1),
  InTurn code (kept_of gone draft) next rewritten (subst (Rewrites answers (kept_of gone draft)) (sym (is-next ∙ compacted-kept_of (kept_before gone) gone draft)) (Relocated (kept_before gone) (kept_of gone draft))),
)

-- ---- rounds, one after the other

pub kept-refl : (code : List Instr) (starts : List ℕ) → IsProgram code → AreInside code starts → IsKept code starts code starts
kept-refl code starts lawful inside = record { lawful = lawful; count = refl; inside = inside; follows = follows-refl code starts; moves = λ ws. omega arith; shape = λ h. h; most = omega arith }

pub kept-trans : (a b d : List Instr) (s t u : List ℕ) → IsKept a s b t → IsKept b t d u → IsKept a s d u
kept-trans a b d s t u x y = record {
  lawful = y.lawful;
  count = y.count ∙ x.count;
  inside = y.inside;
  follows = follows-trans a b d s t u x.count x.follows y.follows;
  moves = λ ws. let p = x.moves ws in let q = y.moves ws in omega arith;
  shape = λ h. y.shape (x.shape h);
  most = let p = x.most in let q = y.most in omega arith;
}

-- a source agrees with the one code exactly where it does with the other
pub agrees-both : (c c' : CodeView) (starts starts' : List ℕ) → c.params ≤ 8 → c'.params ≡ c.params → Follows c.list c'.list starts starts' → (params : ℕ) (source : SourceMeaning) → (Agrees params source c ↔ Agrees params source c')
agrees-both c c' starts starts' few count f params source = (
  λ h. agrees-there params source c c' starts starts' (let e = h.parameters in omega arith) count f h,
  λ h. agrees-back params source c c' starts starts' (let e = h.parameters in omega arith) count f h,
)
