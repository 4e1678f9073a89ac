-- The calls that a save makes of the system, in their order, and what the system tells of a name.
use Rattle.std.specs.Prelude.{◌≡◌, ◌≢◌, ◌≤◌, ◌⊎◌, ℕ, List, [], ◌∷◌, ◌++◌, All, map, length, Option, Some, None, Result, Ok, Err, IsOk, IsOkAnd, IsErrAnd}
use Rattle.std.specs.Fs.{file_type, metadata_mode, permissions_mode, IsFile, IsSymlink}
use Rattle.std.specs.IoError.{error_kind}
use Rattle.std.specs.Path.{slash, cur_dir}
use Rattle.std.specs.declared.fs.attrs.Metadata.{Metadata}
use Rattle.std.specs.declared.fs.permissions.Permissions.{Permissions}
use Rattle.std.specs.declared.io.Error.{Error}
use Rattle.std.specs.declared.io.ErrorKind.{ErrorKind}
use Rattle.std.specs.declared.io.ErrorKind.TheVariants as kinds
use Rattle.nv_outside.specs.Calls.{Asked}

-- a call with what it is given; the file that was made last gets permissions and bytes
pub data Step : Type 0 where
  CreateNew : (path : List ℕ) → Step
  SetPermissions : (permissions : Permissions) → Step
  WriteAll : (bytes : List ℕ) → Step
  SyncAll : Step
  Rename : (from to : List ℕ) → Step
  Remove : (path : List ℕ) → Step
  Overwrite : (path bytes : List ℕ) → Step

-- a call that was done, or that failed with an error of this kind
pub data Made : Type 0 where
  Done : Step → Made
  Failed : Step → ErrorKind → Made

-- the same, by its answer
abbrev pub made_by : {T : Type 0} → Step → Result T Error → Made
made_by step (Ok value) = Done step
made_by step (Err e) = Failed step (error_kind e)

-- the calls that were made have this property
abbrev pub Makes : {State : Type 0} → (State → List Made → Type 0) → State → State → (List Made → Type 0) → Type 0
Makes history old new P = (made : List Made) × P made × Asked history old new made

-- what the answer to a question tells, which changes nothing: the answer to a look at a name, links followed or not; to which path a
-- link leads; that a file may be written; or that a question failed with an error of this kind
pub data Told : Type 0 where
  Looked : (name : List ℕ) → Result Metadata Error → Told
  LookedAtLink : (name : List ℕ) → Result Metadata Error → Told
  Leads : (name path : List ℕ) → Told
  MayBeWritten : (name : List ℕ) → Told
  Refused : ErrorKind → Told

-- a path in its parts, the folder and the name there: what stands before and after its last slash; without one the folder is "."
abbrev pub IsIn : List ℕ → List ℕ → List ℕ → Type 0
IsIn folder own path = All (λ byte. byte ≢ slash) own × ((path ≡ folder ++ slash ∷ own) ⊎ ((path ≡ own) × (folder ≡ cur_dir)))

-- a path in the folder of a file, under another name
abbrev pub IsBeside : List ℕ → List ℕ → Type 0
IsBeside name path = (folder own other : List ℕ) × IsIn folder own name × IsIn folder other path × (own ≢ other)

-- something has the name beside a file that a new file was to have
abbrev pub IsTaken : List ℕ → Made → Type 0
IsTaken name (Failed (CreateNew path) kind) = IsBeside name path × (kind ≡ kinds.AlreadyExists)
IsTaken name _ = ⊥

-- names that are taken were passed over, and then a new file was made beside a file, at this path
abbrev pub IsCreated : List ℕ → List ℕ → List Made → Type 0
IsCreated name path made = (taken : List Made) × IsBeside name path × All (IsTaken name) taken × (made ≡ taken ++ Done (CreateNew path) ∷ [])

-- no new file was made, for this cause: so many calls in a row found a name taken, or the error is that of a name which isn't valid, or the
-- system refused a new file beside a file otherwise
abbrev pub IsNotCreated : ℕ → ErrorKind → List ℕ → List Made → Type 0
IsNotCreated names kind name made =
    (All (IsTaken name) made × (((names ≤ length made) × (kind ≡ kinds.AlreadyExists)) ⊎ (kind ≡ kinds.InvalidFilename)))
    ⊎ ((taken : List Made) × (path : List ℕ) × IsBeside name path × All (IsTaken name) taken × (kind ≢ kinds.AlreadyExists) × (made ≡ taken ++ Failed (CreateNew path) kind ∷ []))

-- what a new file at this path is put through, so that it has these bytes on the disk and then this name
abbrev pub putting : List ℕ → List ℕ → List ℕ → List Step
putting bytes path name = WriteAll bytes ∷ SyncAll ∷ Rename path name ∷ []

-- the same, with these permissions, if any
abbrev pub filling : Option Permissions → List ℕ → List ℕ → List ℕ → List Step
filling (Some permissions) bytes path name = SetPermissions permissions ∷ putting bytes path name
filling None bytes path name = putting bytes path name

-- the first of these calls were done, and the next one failed with an error of this kind
abbrev pub IsCutOff : ErrorKind → List Step → List Made → Type 0
IsCutOff kind steps made = (front : List Step) × (step : Step) × (rest : List Step) × (steps ≡ front ++ step ∷ rest) × (made ≡ map Done front ++ Failed step kind ∷ [])

-- a new file got the bytes whole, they reached the disk, and then it took the name
abbrev pub IsReplaced : Option Permissions → List ℕ → List ℕ → List Made → Type 0
IsReplaced permissions name bytes made = (path : List ℕ) × (before : List Made) × IsCreated name path before × (made ≡ before ++ map Done (filling permissions bytes path name))

-- no new file took the name, since a call failed so, and the last call removes the one that was made
abbrev pub IsUndone : ErrorKind → Option Permissions → List ℕ → List ℕ → List Made → Type 0
IsUndone kind permissions name bytes made =
    (path : List ℕ) × (before after : List Made) × (removed : Made) × IsCreated name path before × IsCutOff kind (filling permissions bytes path name) after × (made ≡ before ++ after ++ removed ∷ []) × ((removed ≡ Done (Remove path)) ⊎ ((other : ErrorKind) × (removed ≡ Failed (Remove path) other)))

-- the name has what it had before these calls, for this cause
abbrev pub IsLeft : ℕ → ErrorKind → Option Permissions → List ℕ → List ℕ → List Made → Type 0
IsLeft names kind permissions name bytes made = IsNotCreated names kind name made ⊎ IsUndone kind permissions name bytes made

-- a look found a regular file with these permissions, something else, nothing, or a symbolic link
abbrev pub FoundFile : Result Metadata Error → Permissions → Type 0
FoundFile look permissions = IsOkAnd look (λ seen. IsFile (file_type seen) × (permissions_mode permissions ≡ metadata_mode seen))

abbrev pub FoundOther : Result Metadata Error → Type 0
FoundOther look = IsOkAnd look (λ seen. IsFile (file_type seen) → ⊥)

abbrev pub FoundNothing : Result Metadata Error → Type 0
FoundNothing look = IsErrAnd look (λ e. error_kind e ≡ kinds.NotFound)

abbrev pub FoundLink : Result Metadata Error → Type 0
FoundLink look = IsOkAnd look (λ seen. IsSymlink (file_type seen))

-- a regular file with these permissions has the name, links followed
abbrev pub IsOfFile : (Told → Type 0) → List ℕ → Permissions → Type 0
IsOfFile told name permissions = (look : Result Metadata Error) × told (Looked name look) × FoundFile look permissions

-- nothing has the name, not even a link
abbrev pub IsFree : (Told → Type 0) → List ℕ → Type 0
IsFree told name = (look link : Result Metadata Error) × told (Looked name look) × FoundNothing look × told (LookedAtLink name link) × FoundNothing link

-- what has the name is no regular file, or it is a link that leads nowhere
abbrev pub IsOfOther : (Told → Type 0) → List ℕ → Type 0
IsOfOther told name =
    ((look : Result Metadata Error) × told (Looked name look) × FoundOther look)
    ⊎ ((look link : Result Metadata Error) × told (Looked name look) × FoundNothing look × told (LookedAtLink name link) × IsOk link)

-- the name, or where it is a symbolic link the path to which it leads
abbrev pub IsAt : (Told → Type 0) → List ℕ → List ℕ → Type 0
IsAt told name target = (look : Result Metadata Error) × told (LookedAtLink name look) × ((FoundLink look × told (Leads name target)) ⊎ ((FoundLink look → ⊥) × (target ≡ name)))

-- a new file is to take this name: with the same permissions that of a regular file which may be written, or one that nothing has
abbrev pub IsTarget : (Told → Type 0) → List ℕ → List ℕ → Option Permissions → Type 0
IsTarget told name target (Some permissions) = IsOfFile told name permissions × told (MayBeWritten name) × IsAt told name target
IsTarget told name target None = IsFree told name × (target ≡ name)

-- the name was given a new file that has the bytes whole; or the system didn't permit that, and what has the name was written over
abbrev pub HasTaken : Option Permissions → List ℕ → List ℕ → List Made → Type 0
HasTaken permissions name bytes made =
    IsReplaced permissions name bytes made
    ⊎ ((before : List Made) × IsLeft 1000 kinds.PermissionDenied permissions name bytes before × (made ≡ before ++ Done (Overwrite name bytes) ∷ []))

-- the name has what it had, for this cause; or the system didn't permit a new file, and then the last call, to write over it, failed so
abbrev pub HasNotTaken : (Told → Type 0) → ErrorKind → Option Permissions → List ℕ → List ℕ → List Made → Type 0
HasNotTaken told kind permissions name bytes made =
    ((made ≡ []) × told (Refused kind))
    ⊎ (IsLeft 1000 kind permissions name bytes made × (kind ≢ kinds.PermissionDenied))
    ⊎ ((before : List Made) × IsLeft 1000 kinds.PermissionDenied permissions name bytes before × (made ≡ before ++ Failed (Overwrite name bytes) kind ∷ []))

-- what is no regular file was written over, or else a regular file has the bytes
abbrev pub IsSaved : (Told → Type 0) → List ℕ → List ℕ → List Made → Type 0
IsSaved told name bytes made =
    (IsOfOther told name × (made ≡ Done (Overwrite name bytes) ∷ []))
    ⊎ ((target : List ℕ) × (permissions : Option Permissions) × IsTarget told name target permissions × HasTaken permissions target bytes made)

-- a question failed so, or writing over what is no regular file, or else a regular file doesn't have the bytes, for this cause
abbrev pub IsUnsaved : (Told → Type 0) → ErrorKind → List ℕ → List ℕ → List Made → Type 0
IsUnsaved told kind name bytes made =
    ((made ≡ []) × told (Refused kind))
    ⊎ (IsOfOther told name × (made ≡ Failed (Overwrite name bytes) kind ∷ []))
    ⊎ ((target : List ℕ) × (permissions : Option Permissions) × IsTarget told name target permissions × HasNotTaken told kind permissions target bytes made)
