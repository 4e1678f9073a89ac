-- The calls that a save makes.
use Rattle.std.proofs.Common.{arith, ◌≡◌, ◌≢◌, ◌≤◌, ◌+◌, ◌⊎◌, inl, inr, ℕ, List, [], ◌∷◌, ◌++◌, All, map, length, Option, Result, Ok, Err, OnOk, IfErr, refl, ap, subst}
use Rattle.std.proofs.lemmas.List.Elements.{All-append, All-nil, All-cons}
use Rattle.std.proofs.lemmas.List.{length-append}
use Rattle.std.specs.IoError.{error_kind}
use Rattle.std.specs.declared.fs.permissions.Permissions.{Permissions}
use Rattle.std.specs.declared.io.Error.{Error}
use Rattle.std.specs.declared.io.ErrorKind.{ErrorKind}
use Rattle.std.specs.declared.io.ErrorKind.TheVariants as kinds
use Rattle.nv_outside.specs.Calls.{Asked}
use Rattle.nv_outside.specs.Steps.{Step, CreateNew, Remove, Overwrite, Made, Done, Failed, made_by, Makes, Told, Refused, IsBeside, IsTaken, IsCreated, IsNotCreated, filling, IsCutOff, IsReplaced, IsLeft, IsOfOther, IsTarget, HasTaken, HasNotTaken, IsSaved, IsUnsaved}
use Rattle.nv_outside.proofs.Calls.{asked-none, asked-both}

-- names that are taken
abbrev pub PassesOver : {S : Type 0} → (S → List Made → Type 0) → List ℕ → S → S → ℕ → Type 0
PassesOver history name old new names = (made : List Made) × All (IsTaken name) made × (names ≤ length made) × Asked history old new made

module _ {S : Type 0} (history : S → List Made → Type 0) where
  pub passes-none : (name : List ℕ) (s : S) → PassesOver history name s s 0
  passes-none name s = ([], All-nil (IsTaken name), omega arith, asked-none history s)

  pub passes-more : (name : List ℕ) (old mid new : S) (names : ℕ) (path : List ℕ) (kind : ErrorKind) → PassesOver history name old mid names → IsBeside name path → kind ≡ kinds.AlreadyExists → Asked history mid new (Failed (CreateNew path) kind ∷ [])
      → PassesOver history name old new (names + 1)
  passes-more name old mid new names path kind h beside is k =
      let one : All (IsTaken name) (Failed (CreateNew path) kind ∷ []) = All-cons (IsTaken name) (Failed (CreateNew path) kind) [] (beside, is) (All-nil (IsTaken name)) in
      let count = length-append h.0 (Failed (CreateNew path) kind ∷ []) in
      let many = h.2 in
      (h.0 ++ Failed (CreateNew path) kind ∷ [], All-append (IsTaken name) h.0 (Failed (CreateNew path) kind ∷ []) h.1 one, omega arith, asked-both history old mid new h.0 (Failed (CreateNew path) kind ∷ []) h.3 k)

  pub passes-created : (name : List ℕ) (old mid new : S) (names : ℕ) (path : List ℕ) → PassesOver history name old mid names → IsBeside name path → Asked history mid new (Done (CreateNew path) ∷ []) → Makes history old new (IsCreated name path)
  passes-created name old mid new names path h beside k = (h.0 ++ Done (CreateNew path) ∷ [], (h.0, beside, h.1, refl), asked-both history old mid new h.0 (Done (CreateNew path) ∷ []) h.3 k)

  pub passes-refused : (name : List ℕ) (old mid new : S) (names : ℕ) (path : List ℕ) (kind : ErrorKind) → PassesOver history name old mid names → IsBeside name path → kind ≢ kinds.AlreadyExists → Asked history mid new (Failed (CreateNew path) kind ∷ [])
      → Makes history old new (IsNotCreated 1000 kind name)
  passes-refused name old mid new names path kind h beside other k = (h.0 ++ Failed (CreateNew path) kind ∷ [], inr (h.0, path, beside, h.1, other, refl), asked-both history old mid new h.0 (Failed (CreateNew path) kind ∷ []) h.3 k)

  pub passes-long : (name : List ℕ) (old new : S) (names : ℕ) (kind : ErrorKind) → PassesOver history name old new names → kind ≡ kinds.InvalidFilename → Makes history old new (IsNotCreated 1000 kind name)
  passes-long name old new names kind h is = (h.0, inl (h.1, inr is), h.3)

  pub passes-all : (name : List ℕ) (old new : S) (kind : ErrorKind) → PassesOver history name old new 1000 → kind ≡ kinds.AlreadyExists → Makes history old new (IsNotCreated 1000 kind name)
  passes-all name old new kind h is = (h.0, inl (h.1, inl (h.2, is)), h.3)

  -- calls that are cut off
  pub cut-now : (old new : S) (step : Step) (rest : List Step) (kind : ErrorKind) → Asked history old new (Failed step kind ∷ []) → Makes history old new (IsCutOff kind (step ∷ rest))
  cut-now old new step rest kind h = (Failed step kind ∷ [], ([], step, rest, refl, refl), h)

  pub cut-later : (old mid new : S) (step : Step) (steps : List Step) (kind : ErrorKind) → Asked history old mid (Done step ∷ []) → Makes history mid new (IsCutOff kind steps) → Makes history old new (IsCutOff kind (step ∷ steps))
  cut-later old mid new step steps kind h k =
      let cut = k.1 in
      (Done step ∷ k.0, (step ∷ cut.0, cut.1, cut.2, ap (λ (x : List Step). step ∷ x) cut.3, ap (λ (x : List Made). Done step ∷ x) cut.4), asked-both history old mid new (Done step ∷ []) k.0 h k.2)

  pub cut-last : (old new : S) (step : Step) (r : Result (Unit {0}) Error) → Asked history old new (made_by step r ∷ []) → IfErr r (λ e. Makes history old new (IsCutOff (error_kind e) (step ∷ [])))
  cut-last old new step (Ok v) h = tt
  cut-last old new step (Err e) h = cut-now old new step [] (error_kind e) h

  -- a new file that took the name, or is removed
  pub replaced-whole : (old mid new : S) (permissions : Option Permissions) (name bytes path : List ℕ) → Makes history old mid (IsCreated name path) → Asked history mid new (map Done (filling permissions bytes path name)) → Makes history old new (IsReplaced permissions name bytes)
  replaced-whole old mid new permissions name bytes path h k = (h.0 ++ map Done (filling permissions bytes path name), (path, h.0, h.1, refl), asked-both history old mid new h.0 (map Done (filling permissions bytes path name)) h.2 k)

  removed-is : (step : Step) (r : Result (Unit {0}) Error) → (made_by step r ≡ Done step) ⊎ ((kind : ErrorKind) × (made_by step r ≡ Failed step kind))
  removed-is step (Ok v) = inl refl
  removed-is step (Err e) = inr (error_kind e, refl)

  pub replaced-undone : (old first second new : S) (permissions : Option Permissions) (kind : ErrorKind) (name bytes path : List ℕ) (r : Result (Unit {0}) Error) → Makes history old first (IsCreated name path)
      → Makes history first second (IsCutOff kind (filling permissions bytes path name)) → Asked history second new (made_by (Remove path) r ∷ []) → Makes history old new (IsLeft 1000 kind permissions name bytes)
  replaced-undone old first second new permissions kind name bytes path r h k l = (
    h.0 ++ k.0 ++ made_by (Remove path) r ∷ [],
    inr (path, h.0, k.0, made_by (Remove path) r, h.1, k.1, refl, removed-is (Remove path) r),
    asked-both history old second new (h.0 ++ k.0) (made_by (Remove path) r ∷ []) (asked-both history old first second h.0 k.0 h.2 k.2) l,
  )

  pub not-created : (old new : S) (kind : ErrorKind) (permissions : Option Permissions) (name bytes : List ℕ) → Makes history old new (IsNotCreated 1000 kind name) → Makes history old new (IsLeft 1000 kind permissions name bytes)
  not-created old new kind permissions name bytes h = (h.0, inl h.1, h.2)

  -- a file that is written over, since no other was permitted
  pub over-done : (old mid new : S) (permissions : Option Permissions) (name bytes : List ℕ) (r : Result (Unit {0}) Error) → Makes history old mid (IsLeft 1000 kinds.PermissionDenied permissions name bytes)
      → Asked history mid new (made_by (Overwrite name bytes) r ∷ []) → OnOk r (Makes history old new (HasTaken permissions name bytes))
  over-done old mid new permissions name bytes (Ok v) h k = (h.0 ++ Done (Overwrite name bytes) ∷ [], inr (h.0, h.1, refl), asked-both history old mid new h.0 (Done (Overwrite name bytes) ∷ []) h.2 k)
  over-done old mid new permissions name bytes (Err e) h k = tt

  pub over-failed : (old mid new : S) (told : Told → Type 0) (permissions : Option Permissions) (name bytes : List ℕ) (r : Result (Unit {0}) Error) → Makes history old mid (IsLeft 1000 kinds.PermissionDenied permissions name bytes)
      → Asked history mid new (made_by (Overwrite name bytes) r ∷ []) → IfErr r (λ e. Makes history old new (HasNotTaken told (error_kind e) permissions name bytes))
  over-failed old mid new told permissions name bytes (Ok v) h k = tt
  over-failed old mid new told permissions name bytes (Err e) h k = (h.0 ++ Failed (Overwrite name bytes) (error_kind e) ∷ [], inr (inr (h.0, h.1, refl)), asked-both history old mid new h.0 (Failed (Overwrite name bytes) (error_kind e) ∷ []) h.2 k)

  pub left-denied : (old new : S) (kind : ErrorKind) (permissions : Option Permissions) (name bytes : List ℕ) → kind ≡ kinds.PermissionDenied → Makes history old new (IsLeft 1000 kind permissions name bytes) → Makes history old new (IsLeft 1000 kinds.PermissionDenied permissions name bytes)
  left-denied old new kind permissions name bytes is h = (h.0, subst (λ (x : ErrorKind). IsLeft 1000 x permissions name bytes h.0) is h.1, h.2)

  pub taken-replaced : (old new : S) (permissions : Option Permissions) (name bytes : List ℕ) → Makes history old new (IsReplaced permissions name bytes) → Makes history old new (HasTaken permissions name bytes)
  taken-replaced old new permissions name bytes h = (h.0, inl h.1, h.2)

  pub taken-left : (old new : S) (told : Told → Type 0) (kind : ErrorKind) (permissions : Option Permissions) (name bytes : List ℕ) → kind ≢ kinds.PermissionDenied → Makes history old new (IsLeft 1000 kind permissions name bytes)
      → Makes history old new (HasNotTaken told kind permissions name bytes)
  taken-left old new told kind permissions name bytes other h = (h.0, inr (inl (h.1, other)), h.2)

  pub taken-none : (s : S) (told : Told → Type 0) (kind : ErrorKind) (permissions : Option Permissions) (name bytes : List ℕ) → told (Refused kind) → Makes history s s (HasNotTaken told kind permissions name bytes)
  taken-none s told kind permissions name bytes h = ([], inl (refl, h), asked-none history s)

  -- the whole save
  pub unsaved-none : (s : S) (told : Told → Type 0) (kind : ErrorKind) (name bytes : List ℕ) → told (Refused kind) → Makes history s s (IsUnsaved told kind name bytes)
  unsaved-none s told kind name bytes h = ([], inl (refl, h), asked-none history s)

  pub saved-over : (old new : S) (told : Told → Type 0) (name bytes : List ℕ) (r : Result (Unit {0}) Error) → IsOfOther told name → Asked history old new (made_by (Overwrite name bytes) r ∷ []) → OnOk r (Makes history old new (IsSaved told name bytes))
  saved-over old new told name bytes (Ok v) is h = (Done (Overwrite name bytes) ∷ [], inl (is, refl), h)
  saved-over old new told name bytes (Err e) is h = tt

  pub unsaved-over : (old new : S) (told : Told → Type 0) (name bytes : List ℕ) (r : Result (Unit {0}) Error) → IsOfOther told name → Asked history old new (made_by (Overwrite name bytes) r ∷ []) → IfErr r (λ e. Makes history old new (IsUnsaved told (error_kind e) name bytes))
  unsaved-over old new told name bytes (Ok v) is h = tt
  unsaved-over old new told name bytes (Err e) is h = (Failed (Overwrite name bytes) (error_kind e) ∷ [], inr (inl (is, refl)), h)

  pub saved-at : (old new : S) (told : Told → Type 0) (permissions : Option Permissions) (name target bytes : List ℕ) (r : Result (Unit {0}) Error) → IsTarget told name target permissions → OnOk r (Makes history old new (HasTaken permissions target bytes))
      → OnOk r (Makes history old new (IsSaved told name bytes))
  saved-at old new told permissions name target bytes (Ok v) at h = (h.0, inr (target, permissions, at, h.1), h.2)
  saved-at old new told permissions name target bytes (Err e) at h = tt

  pub unsaved-at : (old new : S) (told : Told → Type 0) (permissions : Option Permissions) (name target bytes : List ℕ) (r : Result (Unit {0}) Error) → IsTarget told name target permissions
      → IfErr r (λ e. Makes history old new (HasNotTaken told (error_kind e) permissions target bytes)) → IfErr r (λ e. Makes history old new (IsUnsaved told (error_kind e) name bytes))
  unsaved-at old new told permissions name target bytes (Ok v) at h = tt
  unsaved-at old new told permissions name target bytes (Err e) at h = (h.0, inr (inr (target, permissions, at, h.1)), h.2)
