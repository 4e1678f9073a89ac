use Rattle.std.proofs.Common.{map, length, sym, ap, ◌∙◌, arith}
use Rattle.std.proofs.lemmas.List.{length-map}
use Rattle.cps_ir.proofs.Bulks.{groups-are-bulks}
use Rattle.cps_ir.proofs.Widths.{groups-are-widths}
use Rattle.cps_ir.specs.View.{fun_view}
use Rattle.cps_inline.proofs.Inlining.{one-function, main-within, main-there, formed-at, inlined-jumps, inlined-wide, inlined-bulk}
use Rattle.cps_inline.proofs.Outcomes.{outcomes-kept}
use Rattle.cps_inline.proofs.program.inline.Goals as goal

pub index-f-requires : goal.index-f-requires
index-f-requires c = omega (arith, main-within c.args.c.funs.items c.args.c.main c.args.c.formed, c.args.c.funs.ok.0)

pub invariant_of-result : goal.invariant_of-result
invariant_of-result c =
    let there = main-there c.args.c.funs.items c.args.c.main c.index-f.result.now (main-within c.args.c.funs.items c.args.c.main c.args.c.formed) c.index-f.ensures in
    let same = one-function c.args.c.funs.items c.deref.result.now c.args.c.main c.index-f.result.now c.in_ok-main.main c.new-funs.result.items c.push.new.self.items c.deref.ensures.value c.in_ok-main.ensures c.new-funs.ensures.items c.in_ok-push.ensures.items in
    record { formed = formed-at (map fun_view c.args.c.funs.items) c.args.c.main (fun_view c.index-f.result.now) c.args.c.formed there (map fun_view c.push.new.self.items) same }

pub returns : goal.returns
returns c =
    let there = main-there c.args.c.funs.items c.args.c.main c.index-f.result.now (main-within c.args.c.funs.items c.args.c.main c.args.c.formed) c.index-f.ensures in
    let same = one-function c.args.c.funs.items c.deref.result.now c.args.c.main c.index-f.result.now c.in_ok-main.main c.new-funs.result.items c.push.new.self.items c.deref.ensures.value c.in_ok-main.ensures c.new-funs.ensures.items c.in_ok-push.ensures.items in
    record {
      kept = outcomes-kept (map fun_view c.args.c.funs.items) c.args.c.main (fun_view c.index-f.result.now) c.args.c.formed there (map fun_view c.push.new.self.items) same;
      one = sym (length-map c.push.new.self.items fun_view) ∙ ap length same;
      jumps = inlined-jumps (map fun_view c.args.c.funs.items) c.args.c.main (fun_view c.index-f.result.now) (map fun_view c.push.new.self.items) same;
      wide = inlined-wide (map fun_view c.args.c.funs.items) (groups-are-widths (map fun_view c.args.c.funs.items)) c.args.c.main (fun_view c.index-f.result.now) c.args.c.formed there (map fun_view c.push.new.self.items) same;
      bulk = inlined-bulk (map fun_view c.args.c.funs.items) (groups-are-bulks (map fun_view c.args.c.funs.items)) c.args.c.main (fun_view c.index-f.result.now) there (map fun_view c.push.new.self.items) same;
    }
