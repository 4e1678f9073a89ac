-- Schedules, part by part.
use Rattle.std.proofs.Common.{◌≡◌, ℕ, zero, suc, ◌+◌, ◌-◌, ◌≤◌, ◌<◌, List, [], ◌∷◌, ◌++◌, All, Some, refl, ap, sym, subst, ◌∙◌, length, get_or, drop, replicate, arith}
use Rattle.std.specs.Prelude.{slice_get, slice_set, sum_by}
use Rattle.std.proofs.Math.Seq.{drop-cons}
use Rattle.std.proofs.lemmas.List.{set-set, drop_all}
use Rattle.std.proofs.lemmas.List.Elements.{All-set}
use Rattle.std.proofs.lemmas.List.Sums.{sum_by-cons}
use Rattle.std.proofs.lemmas.Option.{slice_get_read}
use Rattle.nv_base.specs.Memories.{Memories}
use Rattle.uc_isa.specs.declared.instruction.Instr.{Instr}
use Rattle.uc_contexts.specs.declared.state.Context.{Context}
use Rattle.uc_contexts.specs.Turns.{Turn, System, turn, turns, enter, entered, scheduled, entries, started}
use Rattle.uc_contexts.proofs.Starting.{started-all}

-- one part after the other
pub scheduled-append : (code : List Instr) (a b : List ℕ) (s : System) → scheduled code (a ++ b) s ≡ scheduled code b (scheduled code a s)
scheduled-append code [] b s = refl
scheduled-append code (i ∷ a) b s = scheduled-append code a b (enter code i s)

-- an element put where it stands
pub set-itself : {A : Type 0} (xs : List A) (i : ℕ) (x : A) → slice_get xs i ≡ Some x → slice_set xs i x ≡ xs
set-itself [] i x h = refl
set-itself (y ∷ xs) zero x h = let same : y ≡ x = cc in ap (λ z. z ∷ xs) (sym same)
set-itself (y ∷ xs) (suc i) x h = ap (λ z. y ∷ z) (set-itself xs i x h)

-- what was put is there
pub get-of_set : {A : Type 0} (xs : List A) (i : ℕ) (x y : A) → slice_get xs i ≡ Some x → slice_get (slice_set xs i y) i ≡ Some y
get-of_set [] i x y h = cc
get-of_set (z ∷ xs) zero x y h = refl
get-of_set (z ∷ xs) (suc i) x y h = get-of_set xs i x y h

-- n entries of one context are its n turns
pub scheduled-same : (code : List Instr) (n i : ℕ) (s : System) (x : Context) → slice_get s.contexts i ≡ Some x
    → scheduled code (replicate n i) s ≡ record { contexts = slice_set s.contexts i (turns code n x s.packet).context; packet = (turns code n x s.packet).packet }
scheduled-same code zero i s x h = ap (λ l. record { contexts = l; packet = s.packet }) (sym (set-itself s.contexts i x h))
scheduled-same code (suc n) i s x h =
    let t : Turn = turn code x s.packet in
    let next : System = record { contexts = slice_set s.contexts i t.context; packet = t.packet } in
    ap (λ o. scheduled code (replicate n i) (entered code i o s)) h
    ∙ scheduled-same code n i next t.context (get-of_set s.contexts i x t.context h)
    ∙ ap (λ l. record { contexts = l; packet = (turns code n t.context t.packet).packet }) (set-set s.contexts i t.context (turns code n t.context t.packet).context)

-- what the entries of one pair leave
pub entered-turns : (code : List Instr) (n i : ℕ) (xs ys : List Context) (x x' : Context) (p p' : Memories) → xs ≡ ys → i < length ys → x ≡ get_or xs i x
    → x' ≡ (turns code n x p).context → p' ≡ (turns code n x p).packet → record { contexts = slice_set xs i x'; packet = p' } ≡ scheduled code (replicate n i) (record { contexts = ys; packet = p })
entered-turns code n i xs ys x x' p p' same inside at turned left =
    let there : i < length xs = subst (λ l. i < length l) (sym same) inside in
    ap (λ l. record { contexts = slice_set xs i l; packet = p' }) turned
    ∙ ap (λ l. record { contexts = slice_set xs i (turns code n x p).context; packet = l }) left
    ∙ sym (scheduled-same code n i (record { contexts = xs; packet = p }) x (slice_get_read xs (length xs) i x refl there at))
    ∙ ap (λ l. scheduled code (replicate n i) (record { contexts = l; packet = p })) same

-- as many writes were noted as entries were taken, at the most
pub entered-count : (n i limit : ℕ) (xs ys : List Context) (x x' : Context) → xs ≡ ys → i < length ys → x ≡ get_or xs i x → x'.log.count ≤ x.log.count + n
    → All (λ x. x.log.count + n ≤ limit) ys → All (λ x. x.log.count ≤ limit) (slice_set xs i x')
entered-count n i limit xs ys x x' same inside at more h =
    let before : All (λ x. x.log.count + n ≤ limit) xs = subst (All (λ x. x.log.count + n ≤ limit)) (sym same) h in
    let there : i < length xs = subst (λ l. i < length l) (sym same) inside in
    let this : x.log.count + n ≤ limit = subst (λ (z : Context). z.log.count + n ≤ limit) (sym at) (before i x there) in
    All-set (λ x. x.log.count ≤ limit) xs i x' (omega arith) (λ k d lt. let one : (get_or xs k d).log.count + n ≤ limit = before k d lt in omega arith)

-- ---- the pairs that are left

abbrev pub total : List (ℕ × ℕ) → ℕ
total pairs = sum_by (λ pair. pair.1) pairs

-- what the schedule leaves is what its rest leaves of this system
pub record Remains (code : List Instr) (names limit : ℕ) (rest : List (ℕ × ℕ)) (now last : System) : Type 0 where
  pub leads : scheduled code (entries rest) now ≡ last
  pub inside : All (λ x. x.engine.place < length code) now.contexts
  pub counted : All (λ x. x.log.count + total rest ≤ limit) now.contexts
  pub few : total rest ≤ limit
  pub number : length now.contexts ≡ names

pub remains-next : (code : List Instr) (names limit : ℕ) (pair : ℕ × ℕ) (rest : List (ℕ × ℕ)) (now next last : System) → Remains code names limit (pair ∷ rest) now last → next ≡ scheduled code (replicate pair.1 pair.0) now
    → All (λ x. x.engine.place < length code) next.contexts → ((most : ℕ) → All (λ x. x.log.count + pair.1 ≤ most) now.contexts → All (λ x. x.log.count ≤ most) next.contexts) → length next.contexts ≡ length now.contexts
    → Remains code names limit rest next last
remains-next code names limit pair rest now next last h turned inside counted number =
    let all : total (pair ∷ rest) ≡ pair.1 + total rest = sum_by-cons (λ (pair : ℕ × ℕ). pair.1) pair rest in
    let few : total rest ≤ limit = omega (arith, h.few) in
    record {
      leads = ap (scheduled code (entries rest)) turned ∙ sym (scheduled-append code (replicate pair.1 pair.0) (entries rest) now) ∙ h.leads;
      inside = inside;
      counted =
          let left : All (λ x. x.log.count ≤ limit - total rest) next.contexts = counted (limit - total rest) (λ k d lt. let one : (get_or now.contexts k d).log.count + total (pair ∷ rest) ≤ limit = h.counted k d lt in omega arith) in
          λ k d lt. let one : (get_or next.contexts k d).log.count ≤ limit - total rest = left k d lt in omega arith;
      few = few;
      number = number ∙ h.number;
    }

-- before the first pair
pub remains-first : (code : List Instr) (limit : ℕ) (pairs : List (ℕ × ℕ)) (args : List (List ℕ)) (xs : List Context) (p : Memories) → xs ≡ started args → 1 ≤ length code → total pairs ≤ limit
    → Remains code (length xs) limit pairs (record { contexts = xs; packet = p }) (scheduled code (entries pairs) (record { contexts = xs; packet = p }))
remains-first code limit pairs args xs p made some few = record {
  leads = refl;
  inside = subst (All (λ x. x.engine.place < length code)) (sym made) (started-all (λ x. x.engine.place < length code) 0 args (λ j a. let there : 0 < length code = omega arith in there));
  counted = subst (All (λ x. x.log.count + total pairs ≤ limit)) (sym made) (started-all (λ x. x.log.count + total pairs ≤ limit) 0 args (λ j a. let none : 0 + total pairs ≤ limit = omega arith in none));
  few = few;
  number = refl;
}

-- after the pair at a place
pub remains-on : (code : List Instr) (names limit : ℕ) (pairs : List (ℕ × ℕ)) (k : ℕ) (now next last : System) → k < length pairs → Remains code names limit (drop k pairs) now last
    → let pair = get_or pairs k (0, 0) in next ≡ scheduled code (replicate pair.1 pair.0) now → All (λ x. x.engine.place < length code) next.contexts
    → ((most : ℕ) → All (λ x. x.log.count + pair.1 ≤ most) now.contexts → All (λ x. x.log.count ≤ most) next.contexts) → length next.contexts ≡ length now.contexts
    → Remains code names limit (drop (k + 1) pairs) next last
remains-on code names limit pairs k now next last there h turned inside counted number =
    let pair : ℕ × ℕ = get_or pairs k (0, 0) in
    let more : k + 1 ≡ suc k = omega arith in
    let first : Remains code names limit (pair ∷ drop (suc k) pairs) now last = subst (λ l. Remains code names limit l now last) (drop-cons pairs k (0, 0) there) h in
    subst (λ n. Remains code names limit (drop n pairs) next last) (sym more) (remains-next code names limit pair (drop (suc k) pairs) now next last first turned inside counted number)

-- after the last pair
pub remains-last : (code : List Instr) (names limit : ℕ) (pairs : List (ℕ × ℕ)) (k : ℕ) (now last : System) → length pairs ≤ k → Remains code names limit (drop k pairs) now last → now ≡ last
remains-last code names limit pairs k now last past h = ap (λ l. scheduled code (entries l) now) (sym (drop_all k pairs past)) ∙ h.leads
