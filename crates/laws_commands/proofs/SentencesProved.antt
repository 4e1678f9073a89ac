-- The sentences, from what a compilation promises.
use Rattle.std.proofs.Common.{◌∙◌, ap, subst, ◌≤◌, Some}
use Rattle.laws_commands.specs.Sentences.{SaysAgreement, SaysReport, SaysMoves}

pub says_agreement : SaysAgreement
says_agreement old new source_name object_name report_name slots budget store weights_name line c =
    let d = c.compiled in
    (c.text, c.held, c.object, c.saved, d.program, d.is_source.is_source, d.tagged, d.decodes, d.lawful, subst (λ n. n ≤ store) d.number d.short, d.agrees)

pub says_report : SaysReport
says_report old new source_name object_name report_name slots budget store weights_name line c =
    let d = c.compiled in (
      c.text,
      c.held,
      d.program,
      d.is_source.is_source,
      c.r,
      c.reported ∙ ap (λ bytes. Some bytes) d.reports.spelled,
      d.banks.form,
      d.banks.is_form.form.kept,
      c.ws,
      c.weighed,
      record { is_true = d.banks.report.holds; banks = d.banks.report.program; meets = d.banks.meets; optimal = d.banks.optimal; cheapest = d.banks.cheapest },
    )

pub says_moves : SaysMoves
says_moves old new source_name object_name report_name slots budget store weights_name line c =
    let d = c.compiled in (
      c.text,
      c.held,
      d.program,
      d.is_source.is_source,
      c.object,
      c.saved,
      d.tagged,
      d.decodes,
      c.r,
      c.reported ∙ ap (λ bytes. Some bytes) d.reports.spelled,
      d.banks.form,
      d.banks.is_form.form.kept,
      c.ws,
      c.weighed,
      record { banks = d.banks.report.program; starts_are = d.banks.labels_start.starts_are; visited = d.banks.labels_start.visited; light = d.banks.light },
    )
