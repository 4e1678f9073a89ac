use Rattle.std.proofs.Common.{List, ◌⊎◌, IfOk, IfErr, ◌∙◌, ap, subst}
use Rattle.nv_outside.specs.Calls.{AsksAtMost}
use Rattle.nv_outside.specs.Causes.{Rose}
use Rattle.nv_outside.proofs.Calls.{at_most-none}
use Rattle.novac_words.specs.inner.Read.{inputs_as}
use Rattle.novac_words.specs.Lines.{IsUncaused}
use Rattle.novac_commands.specs.Loading.{Input, AreRead, StopsAt, IsUnread, loads_of}
use Rattle.novac_commands.specs.inner.Contents.{contents_of}
use Rattle.novac_commands.proofs.Loads.{result-short}
use Rattle.novac_commands.proofs.load.load_inputs.Goals as goal

pub returns-in_err-inputs-clause-asked : goal.returns-in_err-inputs-clause-asked
returns-in_err-inputs-clause-asked g c = at_most-none g.F.Files.history c.args.files.now _

pub returns-clause-read : goal.returns-clause-read
returns-clause-read g c =
    subst (λ (l : List Input). IfOk c.load_all.result (λ x. AreRead g.F.Files.tells (g.F.Files.held c.args.files.now) l (contents_of x.items))) (ap inputs_as c.deref.ensures.value ∙ c.in_ok-inputs.ensures) c.load_all.ensures.read

pub returns-clause-short : goal.returns-clause-short
returns-clause-short g c =
    result-short g.F.Files.tells (g.F.Files.held c.args.files.now) _ c.load_all.result
    (subst (λ (l : List Input). IfOk c.load_all.result (λ x. AreRead g.F.Files.tells (g.F.Files.held c.args.files.now) l (contents_of x.items))) (ap inputs_as c.deref.ensures.value ∙ c.in_ok-inputs.ensures) c.load_all.ensures.read)

pub returns-clause-unread : goal.returns-clause-unread
returns-clause-unread g c =
    subst (λ (l : List Input). IfErr c.load_all.result (λ e. IsUncaused e ⊎ StopsAt g.F.Files.tells (g.F.Files.held c.args.files.now) l (IsUnread g.F.Files.tells (g.F.Files.held c.args.files.now) (λ q. Rose (g.F.Files.load_faults c.args.files.now q) (g.F.Files.load_faults c.load_all.new.files q)) e))) (ap inputs_as c.deref.ensures.value ∙ c.in_ok-inputs.ensures) c.load_all.ensures.unread

pub returns-clause-asked : goal.returns-clause-asked
returns-clause-asked g c =
    subst (λ (l : List Input). AsksAtMost g.F.Files.history c.args.files.now c.load_all.new.files (loads_of l)) (ap inputs_as c.deref.ensures.value ∙ c.in_ok-inputs.ensures) c.load_all.ensures.asked
