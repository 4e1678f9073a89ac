use Rattle.std.proofs.Common.{◌≢◌, All, take}
use Rattle.nova_words.specs.Settings.{setting_name}
use Rattle.nova_words.proofs.verb.Verb.setting.Given as goal

-- no option so far has this name
abbrev pub invariant-loop-setting : goal.invariant-loop-setting
invariant-loop-setting l = All (λ setting. l.word ≢ setting_name setting) (take l.setting-index l.setting-items)
