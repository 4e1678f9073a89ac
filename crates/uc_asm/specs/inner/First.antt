-- The first declaration of each name.
use Rattle.std.specs.Prelude.{◌≡◌, ℕ, ◌+◌, List, [], ◌∷◌, Option, None, Some, nat_eq, if◌then◌else◌}
use Rattle.std.specs.Borrow.{Bor}
use Rattle.indexmap.specs.IndexMap.{IndexMap, get_by}
use Rattle.std.specs.Cmp.Lexicographic.{pointwise}
use Rattle.uc_asm.specs.Items.{Item, label, plain, jump}
use Rattle.uc_asm.specs.declared.given.Declared.{Declared}

-- the first of the two that is there
abbrev pub or_else : {A : Type 0} → Option A → Option A → Option A
or_else None other = other
or_else (Some x) other = Some x

-- where items, from this index and place on, first declare a name
abbrev pub first_declared : List Item → ℕ → ℕ → List ℕ → Option Declared
first_declared [] index place name = None
first_declared (label other ∷ items) index place name =
    or_else (if pointwise nat_eq name other then Some (record { index = index; place = place }) else None) (first_declared items (index + 1) place name)
first_declared (plain i ∷ items) index place name = first_declared items (index + 1) (place + 1) name
first_declared (jump cond other ∷ items) index place name = first_declared items (index + 1) (place + 1) name

-- the declaration that a map has of a name
abbrev pub noted : {S : Type 0} → IndexMap (Bor (List ℕ)) Declared S → List ℕ → Option Declared
noted labels name = get_by (λ key. pointwise nat_eq name key.now) labels

-- the map has the first declaration of each name, and no others
abbrev pub NotesFirst : {S : Type 0} → IndexMap (Bor (List ℕ)) Declared S → List Item → Type 0
NotesFirst labels items = (name : List ℕ) → noted labels name ≡ first_declared items 0 0 name
