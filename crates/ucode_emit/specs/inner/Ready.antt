-- What has to stand where while the code of a form runs.
use Rattle.std.specs.Prelude.{◌≡◌, ℕ, ◌+◌, nat_le, true, List, ◌++◌, Some, slice_get}
use Rattle.nv_base.specs.Sets.{is_in}
use Rattle.nv_base.specs.Words.{Env}
use Rattle.ssu_ir.specs.Tree.{Label}
use Rattle.ssu_ir.specs.Points.{Point}
use Rattle.place_plan.specs.declared.place.Place.{Place}
use Rattle.place_plan.specs.declared.place.Place.TheVariants.{A}
use Rattle.place_plan.specs.Plan.{Plan, home}
use Rattle.place_plan.specs.Uses.{Use, uses}
use Rattle.place_plan.specs.Fits.{general_places, read_places, has_place, is_early, word_register}
use Rattle.ucode_emit.specs.Moves.{Words}

-- the places in which a value lasts while it is held
abbrev pub lasting : List Label → Plan → ℕ → List Place
lasting labels p x = general_places p x ++ read_places labels p x

-- a use whose word was put early above a point and is written there or below
pub record WaitsAt (labels : List Label) (p : Plan) (k : ℕ) (q : Point) (u : Use) : Type 0 where
  pub there : (i : ℕ) × (slice_get (uses labels) i ≡ Some u)
  pub early : is_early p u ≡ true
  pub defined : is_in u.value q.above ≡ true
  pub emit_context : nat_le k u.point ≡ true
  pub below : nat_le u.point (k + q.below) ≡ true

-- before the piece of a node: each value that is held has its word wherever it lasts, and each early word that is still to be written has
-- it in its write register. `env` gives each value its word
pub record Ready (labels : List Label) (p : Plan) (k : ℕ) (q : Point) (env : Env) (e : Words) : Type 0 where
  pub held : (x : ℕ) → is_in x q.before ≡ true → (r : Place) → has_place r (lasting labels p x) ≡ true → e r ≡ env x
  pub early : (u : Use) → WaitsAt labels p k q u → e (word_register p u) ≡ env u.value

-- where a label begins: each parameter has its word where it is defined
abbrev pub Entered : Plan → List ℕ → Env → Words → Type 0
Entered p params env e = (x : ℕ) → is_in x params ≡ true → e (home p x).defined ≡ env x

-- before the run: the arguments are in A0 and on
abbrev pub Begun : List ℕ → Words → Type 0
Begun args e = (i : ℕ) (w : ℕ) → slice_get args i ≡ Some w → e (A i) ≡ w
