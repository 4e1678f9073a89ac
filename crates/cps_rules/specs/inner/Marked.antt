-- The variables that are marked.
use Rattle.cps_rules.specs.declared.marks.Marks.{Marks}
use Rattle.cps_rules.specs.inner.Marks.{Set, marked_in}

abbrev pub is_marked : Marks → Set
is_marked m = marked_in m.rounds.items m.round
