use Rattle.std.proofs.lemmas.Result.{on_ok_weaker}
use Rattle.std.proofs.lemmas.Fmt.{contents_after_writes}
use Rattle.nv_outside.proofs.saving.write_path.Goals as goal

pub returns : goal.returns
returns c = on_ok_weaker _ (contents_after_writes _ (λ s. s.bytes) (λ _ _ _ t. t) _ _ _) c.write.ensures.writes
