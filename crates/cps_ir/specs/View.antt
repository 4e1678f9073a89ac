-- The pure forms of terms, labels and functions.
use Rattle.std.specs.Prelude.{ℕ, List, [], ◌∷◌, map}
use Rattle.cps_ir.specs.declared.term.Term.{Term, fold-Term}
use Rattle.cps_ir.specs.declared.term.Term.TheOpen.{Term-F, Cont-F}
use Rattle.cps_ir.specs.declared.term.Cont.{Cont, fold-Cont}
use Rattle.cps_ir.specs.declared.program.CpsFun.{CpsFun}
use Rattle.cps_ir.specs.Term as pure

-- a label whose body is seen already
pub record Seen : Type 0 where
  pub label : ℕ
  pub params : List ℕ
  pub body : pure.Term

abbrev pub labels_of : List Seen → pure.Labels
labels_of [] = pure.none
labels_of (c ∷ cs) = pure.label c.label c.params c.body (labels_of cs)

abbrev pub view_step : Term-F pure.Term Seen → pure.Term
view_step (Term-F.Let x a t) = pure.Let x a t.value
view_step (Term-F.Read m xs a t) = pure.Read m xs.items a t.value
view_step (Term-F.Write m a bs t) = pure.Write m a bs.items t.value
view_step (Term-F.If c a b t u) = pure.If c a b t.value u.value
view_step (Term-F.Fix ls t) = pure.Fix (labels_of ls.items) t.value
view_step (Term-F.Call f bs k hs) = pure.Call f bs.items k hs.items
view_step (Term-F.Return bs) = pure.Return bs.items
view_step (Term-F.Throw e bs) = pure.Throw e bs.items
view_step (Term-F.Jump l bs) = pure.Jump l bs.items
view_step (Term-F.Halt e bs) = pure.Halt e bs.items

abbrev pub label_step : Cont-F pure.Term Seen → Seen
label_step c = record { label = c.label; params = c.params.items; body = c.body }

abbrev pub term_view : Term → pure.Term
term_view = fold-Term pure.Term Seen view_step label_step

abbrev pub label_view : Cont → Seen
label_view = fold-Cont pure.Term Seen view_step label_step

-- the labels of a list
abbrev pub labels_view : List Cont → pure.Labels
labels_view cs = labels_of (map label_view cs)

abbrev pub fun_view : CpsFun → pure.Fun
fun_view f = record { params = f.params.items; results = f.results; body = term_view f.body; group = f.group }
