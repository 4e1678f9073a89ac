-- How the options are written, which have a value, and which each command has.
use Rattle.std.specs.Prelude.{List, [], ◌∷◌, ℕ, Bool, true, false, codes}
use Rattle.nova_words.specs.declared.verb.Verb.{Verb}
use Rattle.nova_words.specs.declared.verb.Verb.TheVariants as verb
use Rattle.nova_words.specs.declared.setting.Setting.{Setting}
use Rattle.nova_words.specs.declared.setting.Setting.TheVariants.{Output, Report, Slots, Budget, Store, Weights, Steps, Profile, Counts, Verbose, Json, Check, DenyWarnings, Allow, Case, Update, Interpret, Tap, Junit, Line, At, Args, Length, Table, Memory, Keep, Drop, Limit, Trace, Until, Sarif, Coverage, Help}

abbrev pub setting_name : Setting → List ℕ
setting_name Output = codes "-o"
setting_name Report = codes "--report"
setting_name Slots = codes "--slots"
setting_name Budget = codes "--budget"
setting_name Store = codes "--store"
setting_name Weights = codes "--weights"
setting_name Steps = codes "--steps"
setting_name Profile = codes "--profile"
setting_name Counts = codes "--counts"
setting_name Trace = codes "--trace"
setting_name Until = codes "--until"
setting_name Verbose = codes "--verbose"
setting_name Json = codes "--json"
setting_name Sarif = codes "--sarif"
setting_name Check = codes "--check"
setting_name DenyWarnings = codes "--deny-warnings"
setting_name Allow = codes "--allow"
setting_name Case = codes "--case"
setting_name Update = codes "--update"
setting_name Coverage = codes "--coverage"
setting_name Interpret = codes "--interpret"
setting_name Tap = codes "--tap"
setting_name Junit = codes "--junit"
setting_name Line = codes "--line"
setting_name At = codes "--at"
setting_name Args = codes "--args"
setting_name Length = codes "--length"
setting_name Table = codes "--table"
setting_name Memory = codes "--memory"
setting_name Keep = codes "--keep"
setting_name Drop = codes "--drop"
setting_name Limit = codes "--limit"
setting_name Help = codes "--help"

-- all but fourteen have one
abbrev pub takes_value : Setting → Bool
takes_value Profile = false
takes_value Trace = false
takes_value Verbose = false
takes_value Json = false
takes_value Sarif = false
takes_value Check = false
takes_value DenyWarnings = false
takes_value Update = false
takes_value Coverage = false
takes_value Interpret = false
takes_value Tap = false
takes_value Junit = false
takes_value Keep = false
takes_value Help = false
takes_value _ = true

-- those of each command
abbrev pub settings_of : Verb → List Setting
settings_of verb.Build = Output ∷ Report ∷ Slots ∷ Budget ∷ Store ∷ Weights ∷ DenyWarnings ∷ Allow ∷ Json ∷ Sarif ∷ Help ∷ []
settings_of verb.Run = Steps ∷ Budget ∷ Profile ∷ Counts ∷ Trace ∷ Until ∷ Json ∷ Help ∷ []
settings_of verb.List = Budget ∷ Json ∷ Help ∷ []
settings_of verb.Check = Verbose ∷ DenyWarnings ∷ Allow ∷ Json ∷ Sarif ∷ Help ∷ []
settings_of verb.Test = Steps ∷ Budget ∷ Case ∷ Update ∷ Coverage ∷ Interpret ∷ Tap ∷ Junit ∷ Json ∷ Help ∷ []
settings_of verb.Trace = Steps ∷ Line ∷ Json ∷ Help ∷ []
settings_of verb.Page = Output ∷ Steps ∷ Budget ∷ Json ∷ Help ∷ []
settings_of verb.Forms = Json ∷ Help ∷ []
settings_of verb.Format = Check ∷ Json ∷ Help ∷ []
settings_of verb.Asm = Output ∷ Json ∷ Help ∷ []
settings_of verb.Mem = Json ∷ Help ∷ []
settings_of verb.Replay = At ∷ Args ∷ Length ∷ Table ∷ Memory ∷ Keep ∷ Drop ∷ Steps ∷ Limit ∷ Json ∷ Help ∷ []
settings_of verb.Serve = Help ∷ []
settings_of verb.Explain = Help ∷ []
settings_of verb.Help = Help ∷ []
settings_of verb.Version = Help ∷ []
