use Rattle.std.proofs.Common.{rules, ◌≡◌, ◌≢◌, ◌∙◌, sym}
use Rattle.std.proofs.lemmas.List.Elements.{All-more}
use Rattle.nova_words.specs.declared.setting.Setting.TheVariants.{Output}
use Rattle.nova_words.specs.Settings.{setting_name}
use Rattle.nova_words.proofs.verb.Verb.setting.Goals as goal

pub loop-setting-preserved : goal.loop-setting-preserved
loop-setting-preserved c =
    All-more (λ s. c.args.word.now ≢ setting_name s) _ c.loop-setting.setting-index Output c.loop-setting-test.true c.loop-setting.invariant
    (λ same. let equal : c.name.result.now ≡ c.args.word.now = c.name.ensures ∙ sym same in search rules)
