-- Facts that each way keeps, place by place.
use Rattle.std.proofs.Common.{◌≡◌, ◌≢◌, ℕ, zero, suc, ◌+◌, ◌<◌, ◌≤◌, ◌⊎◌, inl, inr, ⊎_elim, Bool, true, false, List, [], ◌∷◌, length, set, get_or, take, Some, nat_eq, refl, sym, ap, ◌∙◌, subst, arith, get_or-set_other}
use Rattle.std.specs.Prelude.{slice_get, slice_index_or}
use Rattle.std.proofs.lemmas.Bool.{cases_lt, false≢true}
use Rattle.std.proofs.lemmas.Bool.Decides.{eqb_tells}
use Rattle.std.proofs.lemmas.Option.{slice_get_within}
use Rattle.uc_isa.specs.declared.instruction.Instr.{Instr}
use Rattle.uc_isa.specs.Resources.{IsNext}
use Rattle.uc_isa.specs.Starts.{IsLabelStart}
use Rattle.uc_isa.specs.StraightCode.{IsEntered}
use Rattle.uc_peep.specs.Draft.{AreMarked}
use Rattle.uc_peep.specs.Kept.{is_gone}
use Rattle.uc_peep_facts.specs.Facts.{AreKept, AreOf, Gives, IsIdle, IsOneOf, MayGo, known, known_at, known_of}
use Rattle.uc_peep_facts.specs.declared.fact.Fact.{Fact}
use Rattle.uc_peep_facts.specs.declared.fact.Facts.{Facts}

-- ---- facts among others

pub taken : {A : Type 0} (n : ℕ) (l : List A) (k : ℕ) (g : A) → slice_get (take n l) k ≡ Some g → k < n
taken zero [] k g at = cc
taken zero (x ∷ l) k g at = cc
taken (suc n) [] k g at = cc
taken (suc n) (x ∷ l) zero g at = omega arith
taken (suc n) (x ∷ l) (suc k) g at = let h = taken n l k g at in omega arith

-- each of the first up to a number is one of the second
abbrev pub AreTo : List Fact → List Fact → ℕ → Type 0
AreTo fs gs n = (k : ℕ) (f : Fact) → k < n → slice_get fs k ≡ Some f → IsOneOf f gs

pub are-more : (fs gs : List Fact) (n : ℕ) → AreTo fs gs n → ((f : Fact) → slice_get fs n ≡ Some f → IsOneOf f gs) → AreTo fs gs (n + 1)
are-more fs gs n h one k f lt at = ⊎_elim
    (λ (less : k < n). h k f less at)
    (λ (le : n ≤ k). let e : n ≡ k = omega arith in one f (ap (slice_get fs) e ∙ at))
    (cases_lt k n)

pub are-all : (fs : Facts) (gs : List Fact) (n : ℕ) → fs.count ≤ n → AreTo (known fs) gs n → AreOf (known fs) gs
are-all fs gs n le h f (k, at) = h k f (let lt = taken fs.count fs.places k f at in omega arith) at

-- ---- ways

-- each way from a place before x keeps the facts
abbrev pub KeptTo : List Instr → List Facts → ℕ → Type 0
KeptTo code table n = (x y : ℕ) (i : Instr) → x < n → slice_get code x ≡ Some i → IsNext i x y → Gives i (known_at table x) (known_at table y)

pub kept-more : (code : List Instr) (table : List Facts) (n : ℕ) (i : Instr) (out : Facts) (fs : Facts) → slice_get code n ≡ Some i → slice_get table n ≡ Some fs → Gives i (known fs) (known out)
    → ((y : ℕ) → IsNext i n y → AreOf (known_at table y) (known out)) → KeptTo code table n → KeptTo code table (n + 1)
kept-more code table n i out fs at here gives all h x y j lt there next = ⊎_elim
    (λ (less : x < n). h x y j less there next)
    (λ (le : n ≤ x).
    let e : x ≡ n = omega arith in
    let same : Some j ≡ Some i = sym there ∙ ap (slice_get code) e ∙ at in
    let ij : i ≡ j = cc in
    let to : IsNext i n y = subst (λ k. IsNext k n y) (sym ij) (subst (λ m. IsNext j m y) e next) in
    let known-here : known_at table x ≡ known fs = ap (known_at table) e ∙ ap known_of here in
    subst (λ k. Gives k (known_at table x) (known_at table y)) ij (subst (λ l. Gives i l (known_at table y)) (sym known-here) (λ f p engine sizes stand g one. gives f p engine sizes stand g (all y to g one))))
    (cases_lt x n)

pub kept-all : (code : List Instr) (table : List Facts) (n : ℕ) → length code ≤ n → known_at table 0 ≡ [] → KeptTo code table n → AreKept code table
kept-all code table n le first h = record {
  first = first;
  each = λ x y i at next. h x y i (let lt = slice_get_within code x i at in omega arith) at next;
}

pub none-first : (table : List Facts) (fs : Facts) → slice_get table 0 ≡ Some fs → fs.count ≡ 0 → known_at table 0 ≡ []
none-first table fs at none = ap known_of at ∙ by fs.places none
  where
    nothing : (l : List Fact) → take 0 l ≡ []
    nothing [] = refl
    nothing (x ∷ l) = refl

    by : (l : List Fact) → fs.count ≡ 0 → take fs.count l ≡ []
    by l e = ap (λ n. take n l) e ∙ nothing l

-- ---- marks

-- the marked places may go, whatever the starts that are marked
abbrev pub AllMayGo : List Instr → List ℕ → List Facts → List Bool → List Bool → List Bool → Type 0
AllMayGo code sets table entered started gone = (starts : List ℕ) → AreMarked entered (IsEntered code) → AreMarked started (IsLabelStart starts) → (x : ℕ) → is_gone gone x ≡ true → MayGo code starts sets table x

pub may-none : (code : List Instr) (sets : List ℕ) (table : List Facts) (entered started gone : List Bool) → ((x : ℕ) → is_gone gone x ≡ false) → AllMayGo code sets table entered started gone
may-none code sets table entered started gone none starts a b x g = absurd (false≢true (sym (none x) ∙ g))

unmarked : (marks : List Bool) (P : ℕ → Type 0) (y : ℕ) → AreMarked marks P → slice_index_or marks y false ≡ false → ¬ P y
unmarked marks P y h none p = false≢true (sym none ∙ (h y).1 p)

pub may-more : (code : List Instr) (sets : List ℕ) (table : List Facts) (entered started gone : List Bool) (n : ℕ) (i : Instr) (fs : Facts) (set' : ℕ) → n < length gone → slice_get code n ≡ Some i → slice_get table n ≡ Some fs → get_or sets (n + 1) 0 ≡ set'
    → n + 1 < length code → slice_index_or entered (n + 1) false ≡ false → slice_index_or started (n + 1) false ≡ false → IsIdle (known fs) set' i → AllMayGo code sets table entered started gone → AllMayGo code sets table entered started (set gone n true)
may-more code sets table entered started gone n i fs set' room at here live inside no-branch no-start idle h starts a b x g = by (eqb_tells x n)
  where
    one : n + 1 ≡ suc n
    one = omega arith

    idle-here : IsIdle (known_at table n) (get_or sets (suc n) 0) i
    idle-here = subst (λ l. IsIdle l (get_or sets (suc n) 0) i) (sym (ap known_of here)) (subst (λ s. IsIdle (known fs) s i) (sym live ∙ ap (λ m. get_or sets m 0) one) idle)

    may-here : MayGo code starts sets table n
    may-here = record {
      instruction = i;
      there = at;
      idle = idle-here;
      inside = subst (λ m. m < length code) one inside;
      not_entered = unmarked entered (IsEntered code) (suc n) a (ap (λ m. slice_index_or entered m false) (sym one) ∙ no-branch);
      not_start = unmarked started (IsLabelStart starts) (suc n) b (ap (λ m. slice_index_or started m false) (sym one) ∙ no-start);
    }

    by : ((nat_eq x n ≡ true) × (x ≡ n)) ⊎ ((nat_eq x n ≡ false) × (x ≢ n)) → MayGo code starts sets table x
    by (inl e) = subst (MayGo code starts sets table) (sym e.1) may-here
    by (inr e) = h starts a b x (sym (get_or-set_other gone n x true false e.1) ∙ g)
