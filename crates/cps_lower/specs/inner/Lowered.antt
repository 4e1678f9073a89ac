-- The continuation form of flat code, functions and programs.
-- A `Bind` makes a label of its rest, round its first part; a `Try` makes one of its handler, round its body. The words of code go to a
-- label, or are the function's. A call of an earlier group whose words are the function's comes back to one label of the function, which
-- returns them.
use Rattle.std.specs.Prelude.{ℕ, zero, suc, ◌+◌, max, nat_lt, Bool, true, false, ◌||◌, List, [], ◌∷◌, ◌++◌, map, Option, Some, None, slice_get}
use Rattle.nv_base.specs.declared.term.Atom.{Atom}
use Rattle.nv_base.specs.declared.term.Atom.TheVariants.{Var}
use Rattle.flat_ir.specs.declared.flat.Flat.{Flat}
use Rattle.flat_ir.specs.declared.flat.Flat.TheVariants.{Let', Fetch', Store', If', Bind', Call, Raise, Try', Give}
use Rattle.flat_ir.specs.declared.flat.FlatFun.{FlatFun}
use Rattle.flat_ir.specs.Formed.{defined}
use Rattle.cps_ir.specs.Meaning.{handler_of}
use Rattle.cps_ir.specs.Term.{Handler, Term, Labels, Fun}
use Rattle.cps_ir.specs.Term as cps

-- how many labels code comes to
abbrev pub labels : Flat → ℕ
labels (Let' x a q t) = labels t
labels (Fetch' m xs a q t) = labels t
labels (Store' m a bs q t) = labels t
labels (If' c a b q t r u) = labels t + labels u
labels (Bind' xs q t r u) = 1 + labels t + labels u
labels (Call f bs) = 0
labels (Raise e bs) = 0
labels (Try' q t e xs r u) = 1 + labels t + labels u
labels (Give bs) = 0

abbrev pub one_label : ℕ → List ℕ → Term → Labels
one_label l xs t = cps.label l xs t cps.none

abbrev pub give_term : Option ℕ → List Atom → Term
give_term (Some l) bs = cps.Jump l bs
give_term None bs = cps.Return bs

abbrev pub raise_term : Option ℕ → ℕ → List Atom → Term
raise_term (Some l) e bs = cps.Jump l bs
raise_term None e bs = cps.Throw e bs

-- whether a function is of an earlier group
abbrev pub is_earlier : ℕ → Option FlatFun → Bool
is_earlier own (Some f) = nat_lt f.group own
is_earlier own None = false

-- a call whose words are the function's: of an earlier group it comes back to the label 0
abbrev pub last_call : Bool → ℕ → List Atom → List Handler → Term
last_call true f bs hs = cps.Call f bs (Some 0) hs
last_call false f bs hs = cps.Call f bs None hs

abbrev pub call_term : Bool → ℕ → List Atom → Option ℕ → List Handler → Term
call_term earlier f bs (Some l) hs = cps.Call f bs (Some l) hs
call_term earlier f bs None hs = last_call earlier f bs hs

-- code in a function of a group, whose words go to k, under handlers, where n is the next label
abbrev pub lowered : List FlatFun → ℕ → Flat → ℕ → Option ℕ → List Handler → Term
lowered funs own (Let' x a q t) n k hs = cps.Let x a (lowered funs own t n k hs)
lowered funs own (Fetch' m xs a q t) n k hs = cps.Read m xs.items a (lowered funs own t n k hs)
lowered funs own (Store' m a bs q t) n k hs = cps.Write m a bs.items (lowered funs own t n k hs)
lowered funs own (If' c a b q t r u) n k hs = cps.If c a b (lowered funs own t n k hs) (lowered funs own u (n + labels t) k hs)
lowered funs own (Bind' xs q t r u) n k hs = cps.Fix (one_label n xs.items (lowered funs own u (n + 1 + labels t) k hs)) (lowered funs own t (n + 1) (Some n) hs)
lowered funs own (Call f bs) n k hs = call_term (is_earlier own (slice_get funs f)) f bs.items k hs
lowered funs own (Raise e bs) n k hs = raise_term (handler_of e hs) e bs.items
lowered funs own (Try' q t e xs r u) n k hs = cps.Fix (one_label n xs.items (lowered funs own u (n + 1 + labels t) k hs)) (lowered funs own t (n + 1) k ((e, n) ∷ hs))
lowered funs own (Give bs) n k hs = give_term k bs.items

-- ---- functions

-- whether code has a call of an earlier group whose words are the function's
abbrev pub hands_on : List FlatFun → ℕ → Flat → Bool
hands_on funs own (Let' x a q t) = hands_on funs own t
hands_on funs own (Fetch' m xs a q t) = hands_on funs own t
hands_on funs own (Store' m a bs q t) = hands_on funs own t
hands_on funs own (If' c a b q t r u) = hands_on funs own t || hands_on funs own u
hands_on funs own (Bind' xs q t r u) = hands_on funs own u
hands_on funs own (Call f bs) = is_earlier own (slice_get funs f)
hands_on funs own (Raise e bs) = false
hands_on funs own (Try' q t e xs r u) = hands_on funs own t || hands_on funs own u
hands_on funs own (Give bs) = false

-- the first variable after all of these
abbrev pub next_variable : List ℕ → ℕ
next_variable [] = 0
next_variable (x ∷ xs) = max (x + 1) (next_variable xs)

-- m variables from i on
abbrev pub variables : ℕ → ℕ → List ℕ
variables i zero = []
variables i (suc m) = i ∷ variables (i + 1) m

abbrev pub operands : List ℕ → List Atom
operands xs = map Var xs

-- a label that returns its words
abbrev pub returning : List ℕ → Labels
returning xs = one_label 0 xs (cps.Return (operands xs))

abbrev pub lowered_body : List FlatFun → FlatFun → Bool → Term
lowered_body funs f true = cps.Fix (returning (variables (next_variable (f.params.items ++ defined f.body)) f.results)) (lowered funs f.group f.body 1 None [])
lowered_body funs f false = lowered funs f.group f.body 0 None []

abbrev pub lowered_fun : List FlatFun → FlatFun → Fun
lowered_fun funs f = record { params = f.params.items; results = f.results; body = lowered_body funs f (hands_on funs f.group f.body); group = f.group }

abbrev pub lowered_all : List FlatFun → List Fun
lowered_all funs = map (lowered_fun funs) funs
