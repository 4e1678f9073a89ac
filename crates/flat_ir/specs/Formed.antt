-- Which flat programs are well formed: what a pass over them may rest on.
use Rattle.std.specs.Prelude.{ℕ, ◌==◌, nat_le, nat_lt, Bool, true, false, ◌&&◌, if◌then◌else◌, List, [], ◌∷◌, ◌++◌, Option, Some, None, slice_get, length}
use Rattle.std.specs.List.{list_all}
use Rattle.nv_base.specs.Sets.{all_different}
use Rattle.nv_base.specs.Access.{is_known, all_known, is_primitive, can_move, is_address}
use Rattle.flat_ir.specs.declared.flat.Flat.{Flat}
use Rattle.flat_ir.specs.declared.flat.Flat.TheVariants.{Let', Fetch', Store', If', Bind', Call, Raise, Try', Give}
use Rattle.flat_ir.specs.declared.flat.FlatFun.{FlatFun}

-- the variables that code defines, in the order of the text
abbrev pub defined : Flat → List ℕ
defined (Let' x a q t) = x ∷ defined t
defined (Fetch' m xs a q t) = xs.items ++ defined t
defined (Store' m a bs q t) = defined t
defined (If' c a b q t r u) = defined t ++ defined u
defined (Bind' xs q t r u) = defined t ++ (xs.items ++ defined u)
defined (Call f bs) = []
defined (Raise k bs) = []
defined (Try' q t k xs r u) = defined t ++ (xs.items ++ defined u)
defined (Give bs) = []

-- ---- calls

-- a function of an earlier group may be called anywhere, one of the own group in tail position
abbrev pub may_stand : Bool → ℕ → ℕ → Bool
may_stand tail own group = if tail then nat_le group own else nat_lt group own

-- in a group of this number: there is such a function, which takes N words and gives so many
abbrev pub can_call : ℕ → Bool → ℕ → ℕ → Option FlatFun → Bool
can_call own tail given wanted (Some f) = (length f.params.items == given) && ((f.results == wanted) && may_stand tail own f.group)
can_call own tail given wanted None = false

-- ---- code in a function of a group, which gives n words, where these variables are known; `tail` says that its words are the function's
abbrev pub is_formed : List FlatFun → ℕ → Bool → ℕ → List ℕ → Flat → Bool
is_formed funs own tail n known (Let' x a q t) = is_primitive known a && is_formed funs own tail n (x ∷ known) t
is_formed funs own tail n known (Fetch' m xs a q t) =
    is_known known a && (can_move m (length xs.items) && (is_address m a (length xs.items) && is_formed funs own tail n (xs.items ++ known) t))
is_formed funs own tail n known (Store' m a bs q t) =
    is_known known a && (all_known known bs.items && (can_move m (length bs.items) && (is_address m a (length bs.items) && is_formed funs own tail n known t)))
is_formed funs own tail n known (If' c a b q t r u) =
    is_known known a && (is_known known b && (is_formed funs own tail n known t && is_formed funs own tail n known u))
is_formed funs own tail n known (Bind' xs q t r u) = is_formed funs own false (length xs.items) known t && is_formed funs own tail n (xs.items ++ known) u
is_formed funs own tail n known (Call f bs) = all_known known bs.items && can_call own tail (length bs.items) n (slice_get funs f)
is_formed funs own tail n known (Raise k bs) = all_known known bs.items && (nat_le 1 k && nat_le (length bs.items) 8)
is_formed funs own tail n known (Try' q t k xs r u) = is_formed funs own false n known t && (nat_le 1 k && is_formed funs own tail n (xs.items ++ known) u)
is_formed funs own tail n known (Give bs) = all_known known bs.items && (length bs.items == n)

-- ---- exceptions: all that is raised or handled under one number has as many words

-- each raise and each handler in code: its exception's number, and its words
abbrev pub raised : Flat → List (ℕ × ℕ)
raised (Let' x a q t) = raised t
raised (Fetch' m xs a q t) = raised t
raised (Store' m a bs q t) = raised t
raised (If' c a b q t r u) = raised t ++ raised u
raised (Bind' xs q t r u) = raised t ++ raised u
raised (Call f bs) = []
raised (Raise k bs) = (k, length bs.items) ∷ []
raised (Try' q t k xs r u) = raised t ++ (k, length xs.items) ∷ raised u
raised (Give bs) = []

abbrev pub all_raised : List FlatFun → List (ℕ × ℕ)
all_raised [] = []
all_raised (f ∷ fs) = raised f.body ++ all_raised fs

abbrev pub agree : List (ℕ × ℕ) → Bool
agree [] = true
agree ((k, n) ∷ rest) = list_all (λ r. if r.0 == k then r.1 == n else true) rest && agree rest

-- ---- functions and programs

-- the variables of a function are all different
abbrev pub is_function : List FlatFun → FlatFun → Bool
is_function funs f = is_formed funs f.group true f.results f.params.items f.body && all_different (f.params.items ++ defined f.body)

-- main takes at most 8 words, and the functions of its group give at most 8
abbrev pub is_main : List FlatFun → Option FlatFun → Bool
is_main funs (Some f) = nat_le (length f.params.items) 8 && list_all (λ g. if g.group == f.group then nat_le g.results 8 else true) funs
is_main funs None = false

abbrev pub is_program : List FlatFun → ℕ → Bool
is_program funs main = list_all (is_function funs) funs && (agree (all_raised funs) && is_main funs (slice_get funs main))
