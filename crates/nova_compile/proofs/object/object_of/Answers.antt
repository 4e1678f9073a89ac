use Rattle.std.proofs.Common.{◌∙◌, ap, subst, IfOk}
use Rattle.uc_object.specs.Object.{IsTaggedObject}
use Rattle.uc_object.specs.Tagged.{TaggedView}
use Rattle.nova_compile.proofs.Objects.{with_exceptions}
use Rattle.nova_compile.proofs.object.object_of.Goals as goal

pub returns : goal.returns
returns c =
    let same = c.new-tagged.ensures ∙ ap (with_exceptions c.args.code c.args.starts.items) c.in_ok-exceptions.ensures.exceptions in
    subst (λ (t : TaggedView). IfOk c.encode.result (λ bytes. IsTaggedObject bytes.items t)) same c.encode.ensures.object
