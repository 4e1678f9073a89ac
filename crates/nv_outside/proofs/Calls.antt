-- Calls behind calls.
use Rattle.std.proofs.Common.{inl, inr, List, [], ◌∷◌, ◌++◌, refl, sym, ◌∙◌, subst}
use Rattle.std.proofs.lemmas.List.{append-nil, append_assoc}
use Rattle.nv_outside.specs.Calls.{Asked, IsPart, AsksAtMost}

-- parts of lists
pub part-later : {A : Type 0} (xs : List A) (y : A) (ys : List A) → IsPart xs ys → IsPart xs (y ∷ ys)
part-later [] y ys h = tt
part-later (x ∷ xs) y ys h = inr h

pub part-self : {A : Type 0} (xs : List A) → IsPart xs xs
part-self [] = tt
part-self (x ∷ xs) = inl (refl, part-self xs)

pub part-both : {A : Type 0} (xs us ys bs : List A) → IsPart xs us → IsPart ys bs → IsPart (xs ++ ys) (us ++ bs)
part-both [] [] ys bs h k = k
part-both [] (a ∷ us) ys bs h k = part-later ys a (us ++ bs) (part-both [] us ys bs tt k)
part-both (x ∷ xs) [] ys bs h k = absurd h
part-both (x ∷ xs) (a ∷ us) ys bs (inl h) k = inl (h.0, part-both xs us ys bs h.1 k)
part-both (x ∷ xs) (a ∷ us) ys bs (inr h) k = inr (part-both (x ∷ xs) us ys bs h k)

pub part-part : {A : Type 0} (xs ys zs : List A) → IsPart xs ys → IsPart ys zs → IsPart xs zs
part-part [] ys zs h k = tt
part-part (x ∷ xs) [] zs h k = absurd h
part-part (x ∷ xs) (y ∷ ys) [] h k = absurd k
part-part (x ∷ xs) (y ∷ ys) (z ∷ zs) (inl h) (inl k) = inl (h.0 ∙ k.0, part-part xs ys zs h.1 k.1)
part-part (x ∷ xs) (y ∷ ys) (z ∷ zs) (inr h) (inl k) = inr (part-part (x ∷ xs) ys zs h k.1)
part-part (x ∷ xs) (y ∷ ys) (z ∷ zs) h (inr k) = inr (part-part (x ∷ xs) (y ∷ ys) zs h k)

-- no call, and calls behind calls
pub asked-none : {S M : Type 0} (history : S → List M → Type 0) (s : S) → Asked history s s []
asked-none history s = λ before h. subst (λ (x : List _). history s x) (sym (append-nil before)) h

pub asked-both : {S M : Type 0} (history : S → List M → Type 0) (old mid new : S) (first second : List M) → Asked history old mid first → Asked history mid new second → Asked history old new (first ++ second)
asked-both history old mid new first second f s = λ before h. subst (λ (x : List _). history new x) (append_assoc before first second) (s (before ++ first) (f before h))

pub at_most-none : {S M : Type 0} (history : S → List M → Type 0) (s : S) (calls : List M) → AsksAtMost history s s calls
at_most-none history s calls = ([], tt, asked-none history s)

pub at_most-one : {S M : Type 0} (history : S → List M → Type 0) (old new : S) (call : M) → Asked history old new (call ∷ []) → AsksAtMost history old new (call ∷ [])
at_most-one history old new call h = (call ∷ [], part-self (call ∷ []), h)

pub at_most-part : {S M : Type 0} (history : S → List M → Type 0) (old new : S) (calls more : List M) → AsksAtMost history old new calls → IsPart calls more → AsksAtMost history old new more
at_most-part history old new calls more h k = (h.0, part-part h.0 calls more h.1 k, h.2)

pub at_most-both : {S M : Type 0} (history : S → List M → Type 0) (old mid new : S) (first second : List M) → AsksAtMost history old mid first → AsksAtMost history mid new second → AsksAtMost history old new (first ++ second)
at_most-both history old mid new first second h k = (h.0 ++ k.0, part-both h.0 first k.0 second h.1 k.1, asked-both history old mid new h.0 k.0 h.2 k.2)

pub at_most-first : {S M : Type 0} (history : S → List M → Type 0) (old new : S) (first second : List M) → AsksAtMost history old new first → AsksAtMost history old new (first ++ second)
at_most-first history old new first second h = at_most-part history old new first (first ++ second) h (subst (λ (x : List _). IsPart x (first ++ second)) (append-nil first) (part-both first first [] second (part-self first) tt))
