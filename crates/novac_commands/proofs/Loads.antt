-- The inputs of a command, in their order.
use Rattle.std.proofs.Common.{◌≡◌, ℕ, suc, ◌+◌, ◌≤◌, ◌<◌, ◌⊎◌, inl, inr, List, [], ◌∷◌, ◌++◌, Some, length, take, drop, get_or, refl, ap, sym, ◌∙◌, subst, Result, Ok, Err, IfOk, arith}
use Rattle.std.specs.Prelude.{Vec, ⊤}
use Rattle.std.specs.Global.{Global}
use Rattle.std.proofs.Math.Nat.{le_trans}
use Rattle.std.proofs.Math.Seq.{drop-cons}
use Rattle.std.proofs.lemmas.List.{get_or_default, map-append, take_all, take_more, take-append-drop}
use Rattle.nv_outside.specs.Calls.{Call, Load, Asked, AsksAtMost}
use Rattle.nv_outside.specs.Causes.{Rose}
use Rattle.nv_outside.specs.Holding.{Holding, IsLonger}
use Rattle.nv_outside.proofs.Calls.{at_most-none, at_most-one, at_most-both, at_most-first}
use Rattle.novac_commands.specs.Answers.{IsFree}
use Rattle.novac_words.specs.inner.Read.{input_as, inputs_as}
use Rattle.novac_words.specs.Lines.{IsUncaused, refusal_status}
use Rattle.novac_words.specs.declared.input.Input.{Input as Named}
use Rattle.novac_commands.specs.Loading.{Input, IsRead, AreRead, StopsAt, IsUnread, loads_of}
use Rattle.novac_commands.specs.inner.Contents.{AreShort, contents_of}
use Rattle.novac_machine.proofs.Saves.{rose-later}
use Rattle.novac_words.specs.declared.refusal.Refusal.{Refusal}
use Rattle.novac_words.specs.declared.refusal.Refusal.TheVariants.{ReadFault, TooLarge}

some-once : (x y : List ℕ) → Some x ≡ Some y → x ≡ y
some-once x y e = cc

-- an input has one content
read-one : (T : Type 0) (held : Holding) (i : Input) (b b' : List ℕ) → T → IsRead T held i b → IsRead ⊤ held i b' → b ≡ b'
read-one T held i b b' t h k = some-once b b' (sym (h.here t) ∙ k.here tt)

long-unread : (T : Type 0) (held : Holding) (i : Input) (b : List ℕ) → T → IsRead T held i b → IsLonger held i.name i.limit → ⊥
long-unread T held i b t h l =
    let same : b ≡ l.0 = some-once b l.0 (sym (h.here t) ∙ l.1) in
    let few : length l.0 ≤ i.limit = subst (λ (x : List ℕ). length x ≤ i.limit) same h.short in
    let many : i.limit < length l.0 = l.2 in
    omega arith

-- all inputs have one list of contents
pub contents-one : (T : Type 0) (held : Holding) (is : List Input) (bs bs' : List (List ℕ)) → T → AreRead T held is bs → AreRead ⊤ held is bs' → bs ≡ bs'
contents-one T held [] [] [] t h k = refl
contents-one T held [] [] (b' ∷ bs') t h k = absurd k
contents-one T held [] (b ∷ bs) bs' t h k = absurd h
contents-one T held (i ∷ is) [] bs' t h k = absurd h
contents-one T held (i ∷ is) (b ∷ bs) [] t h k = absurd k
contents-one T held (i ∷ is) (b ∷ bs) (b' ∷ bs') t h k =
    ap (λ (x : List ℕ). x ∷ bs) (read-one T held i b b' t h.0 k.0) ∙ ap (λ (xs : List (List ℕ)). b' ∷ xs) (contents-one T held is bs bs' t h.1 k.1)

pub read-short : (T : Type 0) (held : Holding) (is : List Input) (bs : List (List ℕ)) → AreRead T held is bs → AreShort is bs
read-short T held [] [] h = tt
read-short T held [] (b ∷ bs) h = absurd h
read-short T held (i ∷ is) [] h = absurd h
read-short T held (i ∷ is) (b ∷ bs) h = (h.0.short, read-short T held is bs h.1)

-- one of the inputs is too long, or there is another reason, and yet all are read: then there is that reason
pub stopped-read : (T U X : Type 0) (held : Holding) (is : List Input) (bs : List (List ℕ)) (P : Input → Type 0) → U
    → ((i : Input) → P i → X ⊎ IsLonger held i.name i.limit) → StopsAt T held is P → AreRead U held is bs → X
stopped-read T U X held [] bs P u why k h = absurd k
stopped-read T U X held (i ∷ is) [] P u why k h = absurd h
stopped-read T U X held (i ∷ is) (b ∷ bs) P u why (inl k) h = elim (why i k) [
  | inl x ↦ x
  | inr l ↦ absurd (long-unread U held i b u h.0 l)
]
stopped-read T U X held (i ∷ is) (b ∷ bs) P u why (inr k) h = stopped-read T U X held is bs P u why k.2 h.1

-- two reasons to stop are at the same input
pub stops-both : (T X : Type 0) (held : Holding) (is : List Input) (P Q : Input → Type 0) → T
    → ((i : Input) → P i → X ⊎ IsLonger held i.name i.limit) → ((i : Input) → Q i → IsLonger held i.name i.limit) → ((i : Input) → P i → Q i → X)
    → StopsAt T held is P → StopsAt ⊤ held is Q → X
stops-both T X held [] P Q t why long both h k = absurd h
stops-both T X held (i ∷ is) P Q t why long both (inl h) (inl k) = both i h k
stops-both T X held (i ∷ is) P Q t why long both (inl h) (inr k) = elim (why i h) [
  | inl x ↦ x
  | inr l ↦ absurd (long-unread ⊤ held i k.0 tt k.1 l)
]
stops-both T X held (i ∷ is) P Q t why long both (inr h) (inl k) = absurd (long-unread T held i h.0 t h.1 (long i k))
stops-both T X held (i ∷ is) P Q t why long both (inr h) (inr k) = stops-both T X held is P Q t why long both h.2 k.2

pub stops-map : (T : Type 0) (held : Holding) (is : List Input) (P Q : Input → Type 0) → ((i : Input) → P i → Q i) → StopsAt T held is P → StopsAt T held is Q
stops-map T held [] P Q f h = h
stops-map T held (i ∷ is) P Q f (inl h) = inl (f i h)
stops-map T held (i ∷ is) P Q f (inr h) = inr (h.0, h.1, stops-map T held is P Q f h.2)

-- why an input isn't read
pub unread-long : (T : Type 0) (held : Holding) (R : List ℕ → Type 0) (e : Refusal) (i : Input) → T → IsUnread T held R e i → IsFree (refusal_status e) ⊎ IsLonger held i.name i.limit
unread-long T held R (ReadFault name) i t h = inl (inl refl)
unread-long T held R (TooLarge n) i t h = inr (h.1 t)
unread-long T held R _ i t h = absurd h

abbrev pub Never : List ℕ → Type 0
Never name = ⊥

pub none-long : (held : Holding) (e : Refusal) (i : Input) → IsUnread ⊤ held Never e i → IsLonger held i.name i.limit
none-long held (ReadFault name) i h = absurd h.1
none-long held (TooLarge n) i h = h.1 tt
none-long held _ i h = absurd h

pub unread-one : (T : Type 0) (held : Holding) (R : List ℕ → Type 0) (e e' : Refusal) (i : Input) → IsUnread T held R e i → IsUnread ⊤ held Never e' i → IsFree (refusal_status e) ⊎ (e ≡ e')
unread-one T held R (ReadFault name) e' i h k = inl (inl refl)
unread-one T held R (TooLarge n) (TooLarge m) i h k = inr (ap (λ (x : ℕ). TooLarge x) (h.0 ∙ sym k.0))
unread-one T held R (TooLarge n) (ReadFault name) i h k = absurd k.1
unread-one T held R (TooLarge n) _ i h k = absurd k
unread-one T held R _ e' i h k = absurd h

-- a count that rose later rose from before on
pub unread-later : (T : Type 0) (held : Holding) (before mid after : List ℕ → ℕ) (e : Refusal) (i : Input) → ((q : List ℕ) → before q ≤ mid q)
    → IsUnread T held (λ q. Rose (mid q) (after q)) e i → IsUnread T held (λ q. Rose (before q) (after q)) e i
unread-later T held before mid after (ReadFault name) i rises h = (h.0, rose-later (before i.name) (mid i.name) (after i.name) (rises i.name) h.1)
unread-later T held before mid after (TooLarge n) i rises h = h
unread-later T held before mid after _ i rises h = h

-- ---- one input after the other

-- a store has loaded these inputs, with these contents, and holds what it held
pub record HasLoaded {S : Type 0} (T : Type 0) (held : S → Holding) (history : S → List Call → Type 0) (loads saves : S → List ℕ → ℕ) (old now : S) (is : List Input) (bs : List (List ℕ)) : Type 0 where
  pub read : AreRead T (held old) is bs
  pub asked : AsksAtMost history old now (loads_of is)
  pub kept : held now ≡ held old
  pub load_faults : (q : List ℕ) → loads old q ≤ loads now q
  pub save_faults : (q : List ℕ) → saves old q ≤ saves now q

pub loaded-none : {S : Type 0} (T : Type 0) (held : S → Holding) (history : S → List Call → Type 0) (loads saves : S → List ℕ → ℕ) (s : S) → HasLoaded T held history loads saves s s [] []
loaded-none T held history loads saves s = record { read = tt; asked = at_most-none history s []; kept = refl; load_faults = λ q. omega arith; save_faults = λ q. omega arith }

read-more : (T : Type 0) (held : Holding) (is : List Input) (bs : List (List ℕ)) (i : Input) (b : List ℕ) → AreRead T held is bs → IsRead T held i b → AreRead T held (is ++ i ∷ []) (bs ++ b ∷ [])
read-more T held [] [] i b h r = (r, tt)
read-more T held [] (x ∷ bs) i b h r = absurd h
read-more T held (j ∷ is) [] i b h r = absurd h
read-more T held (j ∷ is) (x ∷ bs) i b h r = (h.0, read-more T held is bs i b h.1 r)

stops-behind : (T : Type 0) (held : Holding) (is : List Input) (bs : List (List ℕ)) (i : Input) (rest : List Input) (P : Input → Type 0) → AreRead T held is bs → P i → StopsAt T held (is ++ i ∷ rest) P
stops-behind T held [] bs i rest P h p = inl p
stops-behind T held (j ∷ is) [] i rest P h p = absurd h
stops-behind T held (j ∷ is) (x ∷ bs) i rest P h p = inr (x, h.0, stops-behind T held is bs i rest P h.1 p)

pub loaded-more : {S : Type 0} (T : Type 0) (held : S → Holding) (history : S → List Call → Type 0) (loads saves : S → List ℕ → ℕ) (old now next : S) (is : List Input) (bs : List (List ℕ)) (i : Input) (b : List ℕ)
    → HasLoaded T held history loads saves old now is bs → IsRead T (held now) i b → Asked history now next (Load i.name ∷ []) → held next ≡ held now → ((q : List ℕ) → loads now q ≤ loads next q) → ((q : List ℕ) → saves now q ≤ saves next q)
    → HasLoaded T held history loads saves old next (is ++ i ∷ []) (bs ++ b ∷ [])
loaded-more T held history loads saves old now next is bs i b h r asked kept more more' = record {
  read = read-more T (held old) is bs i b h.read (subst (λ (x : Holding). IsRead T x i b) h.kept r);
  asked = subst (AsksAtMost history old next) (sym (map-append (λ (x : Input). Load x.name) is (i ∷ []))) (at_most-both history old now next (loads_of is) (Load i.name ∷ []) h.asked (at_most-one history now next (Load i.name) asked));
  kept = kept ∙ h.kept;
  load_faults = λ q. le_trans (h.load_faults q) (more q);
  save_faults = λ q. le_trans (h.save_faults q) (more' q);
}

-- the next can't be loaded
pub loaded-stops : {S : Type 0} (T : Type 0) (held : S → Holding) (history : S → List Call → Type 0) (loads saves : S → List ℕ → ℕ) (old now next : S) (is : List Input) (bs : List (List ℕ)) (i : Input) (rest : List Input) (e : Refusal)
    → HasLoaded T held history loads saves old now is bs → IsUncaused e ⊎ IsUnread T (held now) (λ q. Rose (loads now q) (loads next q)) e i
    → IsUncaused e ⊎ StopsAt T (held old) (is ++ i ∷ rest) (IsUnread T (held old) (λ q. Rose (loads old q) (loads next q)) e)
loaded-stops T held history loads saves old now next is bs i rest e h (inl u) = inl u
loaded-stops T held history loads saves old now next is bs i rest e h (inr u) =
    inr (stops-behind T (held old) is bs i rest (IsUnread T (held old) (λ q. Rose (loads old q) (loads next q)) e) h.read
    (unread-later T (held old) (loads old) (loads now) (loads next) e i h.load_faults (subst (λ (x : Holding). IsUnread T x (λ q. Rose (loads now q) (loads next q)) e i) h.kept u)))

pub asked-behind : {S : Type 0} (T : Type 0) (held : S → Holding) (history : S → List Call → Type 0) (loads saves : S → List ℕ → ℕ) (old now next : S) (is : List Input) (bs : List (List ℕ)) (i : Input) (rest : List Input)
    → HasLoaded T held history loads saves old now is bs → Asked history now next (Load i.name ∷ []) → AsksAtMost history old next (loads_of (is ++ i ∷ rest))
asked-behind T held history loads saves old now next is bs i rest h asked =
    subst (AsksAtMost history old next) (sym (map-append (λ (x : Input). Load x.name) is (i ∷ rest)))
    (at_most-both history old now next (loads_of is) (Load i.name ∷ loads_of rest) h.asked (at_most-first history now next (Load i.name ∷ []) (loads_of rest) (at_most-one history now next (Load i.name) asked)))

-- ---- a list of inputs, cut at a place

pub inputs-more : (xs : List Named) (k : ℕ) (x : Named) → k < length xs → x ≡ get_or xs k x → inputs_as (take (k + 1) xs) ≡ inputs_as (take k xs) ++ input_as x ∷ []
inputs-more xs k x there is = ap inputs_as (take_more xs k x there ∙ ap (λ (y : Named). take k xs ++ y ∷ []) (sym is)) ∙ map-append input_as (take k xs) (x ∷ [])

pub inputs-cut : (xs : List Named) (k : ℕ) (x : Named) → k < length xs → x ≡ get_or xs k x → inputs_as xs ≡ inputs_as (take k xs) ++ input_as x ∷ inputs_as (drop (suc k) xs)
inputs-cut xs k x there is =
    ap inputs_as (sym (take-append-drop k xs) ∙ ap (λ l. take k xs ++ l) (drop-cons xs k x there ∙ ap (λ (y : Named). y ∷ drop (suc k) xs) (sym is)))
    ∙ map-append input_as (take k xs) (x ∷ drop (suc k) xs)

pub contents-more : (xs : List (Vec ℕ Global)) (x : Vec ℕ Global) → contents_of (xs ++ x ∷ []) ≡ contents_of xs ++ x.items ∷ []
contents-more xs x = map-append (λ (v : Vec ℕ Global). v.items) xs (x ∷ [])

-- ---- the loop over a list of inputs

module _ {S : Type 0} (T : Type 0) (held : S → Holding) (history : S → List Call → Type 0) (loads saves : S → List ℕ → ℕ) (old now next : S) (xs : List Named) where
  pub loaded-next : (k : ℕ) (d : Named) (contents pushed : List (Vec ℕ Global)) (b : Vec ℕ Global) → k < length xs → HasLoaded T held history loads saves old now (inputs_as (take k xs)) (contents_of contents)
      → IsRead T (held now) (input_as (get_or xs k d)) b.items → Asked history now next (Load (get_or xs k d).name.now ∷ []) → held next ≡ held now → ((q : List ℕ) → loads now q ≤ loads next q) → ((q : List ℕ) → saves now q ≤ saves next q)
      → pushed ≡ contents ++ b ∷ [] → HasLoaded T held history loads saves old next (inputs_as (take (k + 1) xs)) (contents_of pushed)
  loaded-next k d contents pushed b there h read asked kept more more' pushes =
      subst (λ (l : List Input). HasLoaded T held history loads saves old next l (contents_of pushed)) (sym (inputs-more xs k (get_or xs k d) there (get_or_default xs k d (get_or xs k d) there)))
      (subst (λ (bs : List (List ℕ)). HasLoaded T held history loads saves old next (inputs_as (take k xs) ++ input_as (get_or xs k d) ∷ []) bs) (sym (ap contents_of pushes ∙ contents-more contents b))
      (loaded-more T held history loads saves old now next (inputs_as (take k xs)) (contents_of contents) (input_as (get_or xs k d)) b.items h read asked kept more more'))

  pub loaded-all : (k : ℕ) (bs : List (List ℕ)) → length xs ≤ k → HasLoaded T held history loads saves old now (inputs_as (take k xs)) bs → HasLoaded T held history loads saves old now (inputs_as xs) bs
  loaded-all k bs h loaded = subst (λ (l : List Named). HasLoaded T held history loads saves old now (inputs_as l) bs) (take_all k xs h) loaded

  pub unread-next : (k : ℕ) (d : Named) (bs : List (List ℕ)) (e : Refusal) → k < length xs → HasLoaded T held history loads saves old now (inputs_as (take k xs)) bs
      → IsUncaused e ⊎ IsUnread T (held now) (λ q. Rose (loads now q) (loads next q)) e (input_as (get_or xs k d))
      → IsUncaused e ⊎ StopsAt T (held old) (inputs_as xs) (IsUnread T (held old) (λ q. Rose (loads old q) (loads next q)) e)
  unread-next k d bs e there h u =
      subst (λ (l : List Input). IsUncaused e ⊎ StopsAt T (held old) l (IsUnread T (held old) (λ q. Rose (loads old q) (loads next q)) e)) (sym (inputs-cut xs k (get_or xs k d) there (get_or_default xs k d (get_or xs k d) there)))
      (loaded-stops T held history loads saves old now next (inputs_as (take k xs)) bs (input_as (get_or xs k d)) (inputs_as (drop (suc k) xs)) e h u)

  pub asked-next : (k : ℕ) (d : Named) (bs : List (List ℕ)) → k < length xs → HasLoaded T held history loads saves old now (inputs_as (take k xs)) bs → Asked history now next (Load (get_or xs k d).name.now ∷ [])
      → AsksAtMost history old next (loads_of (inputs_as xs))
  asked-next k d bs there h asked =
      subst (λ (l : List Input). AsksAtMost history old next (loads_of l)) (sym (inputs-cut xs k (get_or xs k d) there (get_or_default xs k d (get_or xs k d) there)))
      (asked-behind T held history loads saves old now next (inputs_as (take k xs)) bs (input_as (get_or xs k d)) (inputs_as (drop (suc k) xs)) h asked)

-- what was read is as short as it may be
pub result-short : (T : Type 0) (held : Holding) (is : List Input) (q : Result (Vec (Vec ℕ Global) Global) Refusal) → IfOk q (λ x. AreRead T held is (contents_of x.items)) → IfOk q (λ x. AreShort is (contents_of x.items))
result-short T held is (Ok x) h = read-short T held is (contents_of x.items) h
result-short T held is (Err e) h = tt
