-- Sets of variables, as lists in which each may stand more than once.
use Rattle.std.specs.Prelude.{◌≡◌, ℕ, ◌+◌, nat_eq, Bool, true, not, ◌&&◌, if◌then◌else◌, List, [], ◌∷◌, ◌++◌}
use Rattle.std.specs.List.{list_any}
use Rattle.nv_base.specs.declared.term.Atom.{Atom}
use Rattle.nv_base.specs.Words.{Env, atom_vars}

abbrev pub is_in : ℕ → List ℕ → Bool
is_in x xs = list_any (λ y. nat_eq x y) xs

-- each stands once
abbrev pub all_different : List ℕ → Bool
all_different [] = true
all_different (x ∷ xs) = not (is_in x xs) && all_different xs

-- what is in the first is in the second
abbrev pub Within : List ℕ → List ℕ → Type 0
Within a b = (x : ℕ) → is_in x a ≡ true → is_in x b ≡ true

-- how many different ones there are
abbrev pub different : List ℕ → ℕ
different [] = 0
different (x ∷ xs) = if is_in x xs then different xs else 1 + different xs

-- those that aren't among others
abbrev pub without : List ℕ → List ℕ → List ℕ
without [] gone = []
without (x ∷ xs) gone = if is_in x gone then without xs gone else x ∷ without xs gone

-- the variables of operands
abbrev pub all_vars : List Atom → List ℕ
all_vars [] = []
all_vars (a ∷ as') = atom_vars a ++ all_vars as'

-- two environments give each of these variables the same word
abbrev pub AgreeOn : List ℕ → Env → Env → Type 0
AgreeOn known env env' = (x : ℕ) → is_in x known ≡ true → env x ≡ env' x
