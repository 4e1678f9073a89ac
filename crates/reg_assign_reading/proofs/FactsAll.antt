-- What the lines of a bank program say, as facts.
use Rattle.std.proofs.Common.{◌≡◌, ℕ, true, List, ◌++◌, arith}
use Rattle.std.specs.Prelude.{All}
use Rattle.std.specs.List.{flat_map}
use Rattle.ssu_ir.specs.Tree.{Label}
use Rattle.ssu_ir.specs.Points.{Point, points}
use Rattle.ssu_ir.specs.Single.{single}
use Rattle.place_plan.specs.Uses.{accesses, values, uses}
use Rattle.place_plan.proofs.Fitting.{apart-from}
use Rattle.place_plan.proofs.Sound.{Each}
use Rattle.place_plan.proofs.Spilled.{each-all, all-each, each-left, each-right}
use Rattle.place_plan.proofs.Joined.{values-different}
use Rattle.bank_prog_form.specs.Columns.{each_point}
use Rattle.bank_prog_form.specs.Rows.{Line, lines, parameter_choice, result_choice, access_choice, use_choice, one_choice, use_cover, copy_cover, argument_cover, homes_cover, operand_lines, operand_banks, room_lines, capacity, read_owners, fill_owners, write_owners, owners, adjacency, slot_read, value_written, passes}
use Rattle.bank_prog.specs.Meaning.{Chosen, Holds}
use Rattle.reg_assign_reading.specs.inner.Facts.{OnlyThere, ValueFacts, AccessFacts, UseFacts, Facts}
use Rattle.reg_assign_reading.proofs.Counts.{each-in, each-from, each-flat, each-points}
use Rattle.reg_assign_reading.proofs.FactsValues.{Known, value-facts}
use Rattle.reg_assign_reading.proofs.FactsUses.{access-facts, use-facts}
use Rattle.reg_assign_reading.proofs.FactsPoints.{point-facts}

-- the families of lines
record Families (labels : List Label) (slots : ℕ) (on : Chosen) : Type 0 where
  parameters : Each (λ v. Each (Holds on) (parameter_choice v)) (values labels)
  results : Each (λ v. Each (Holds on) (result_choice labels v)) (values labels)
  accesses_ : Each (λ a. Each (Holds on) (access_choice a)) (accesses labels)
  choices : Each (λ u. Each (Holds on) (use_choice u)) (uses labels)
  covers : Each (λ u. Each (Holds on) (use_cover labels u)) (uses labels)
  copies : Each (λ v. Each (Holds on) (copy_cover labels v)) (values labels)
  arguments : Each (λ u. Each (Holds on) (argument_cover labels u)) (uses labels)
  operands : Each (Holds on) (operand_banks labels)
  room : Each (Holds on) (capacity labels slots)
  read : Each (Holds on) (each_point (read_owners labels) 0 (points labels))
  filled : Each (Holds on) (each_point (fill_owners labels) 0 (points labels))
  written : Each (Holds on) (each_point (write_owners labels) 0 (points labels))
  begins : Each (Holds on) (adjacency labels)
  reads : Each (λ u. Each (Holds on) (slot_read u)) (uses labels)
  writes : Each (λ v. Each (Holds on) (value_written labels v)) (values labels)

abbrev from_passes : List Label → List Line
from_passes labels = passes labels

abbrev from_adjacency : List Label → List Line
from_adjacency labels = adjacency labels ++ from_passes labels

abbrev from_owners : List Label → List Line
from_owners labels = owners labels ++ from_adjacency labels

abbrev from_capacity : List Label → ℕ → List Line
from_capacity labels slots = capacity labels slots ++ from_owners labels

abbrev from_operands : List Label → ℕ → List Line
from_operands labels slots = operand_banks labels ++ from_capacity labels slots

abbrev from_homes : List Label → ℕ → List Line
from_homes labels slots = homes_cover labels ++ from_operands labels slots

families : (labels : List Label) (slots : ℕ) (on : Chosen) → Each (Holds on) (lines labels slots) → Families labels slots on
families labels slots on h =
    let H : Line → Type 0 = Holds on in
    let vs = values labels in
    let us = uses labels in
    let as' = accesses labels in
    let ps = points labels in
    let one = each-left H (one_choice labels) (from_homes labels slots) h in
    let h2 = each-right H (one_choice labels) (from_homes labels slots) h in
    let homes = each-left H (homes_cover labels) (from_operands labels slots) h2 in
    let h3 = each-right H (homes_cover labels) (from_operands labels slots) h2 in
    let h4 = each-right H (operand_banks labels) (from_capacity labels slots) h3 in
    let h5 = each-right H (capacity labels slots) (from_owners labels) h4 in
    let own = each-left H (owners labels) (from_adjacency labels) h5 in
    let h6 = each-right H (owners labels) (from_adjacency labels) h5 in
    let pass = each-right H (adjacency labels) (from_passes labels) h6 in
    let p1 = flat_map parameter_choice vs in
    let p2 = flat_map (result_choice labels) vs in
    let p3 = flat_map access_choice as' in
    let p4 = flat_map use_choice us in
    let one2 = each-right H p1 (p2 ++ (p3 ++ p4)) one in
    let one3 = each-right H p2 (p3 ++ p4) one2 in
    let c1 = flat_map (use_cover labels) us in
    let c2 = flat_map (copy_cover labels) vs in
    let c3 = flat_map (argument_cover labels) us in
    let homes2 = each-right H c1 (c2 ++ c3) homes in
    let o1 = each_point (read_owners labels) 0 ps in
    let o2 = each_point (fill_owners labels) 0 ps in
    let o3 = each_point (write_owners labels) 0 ps in
    let own2 = each-right H o1 (o2 ++ o3) own in
    record {
      parameters = each-flat H parameter_choice vs (each-left H p1 (p2 ++ (p3 ++ p4)) one);
      results = each-flat H (result_choice labels) vs (each-left H p2 (p3 ++ p4) one2);
      accesses_ = each-flat H access_choice as' (each-left H p3 p4 one3);
      choices = each-flat H use_choice us (each-right H p3 p4 one3);
      covers = each-flat H (use_cover labels) us (each-left H c1 (c2 ++ c3) homes);
      copies = each-flat H (copy_cover labels) vs (each-left H c2 c3 homes2);
      arguments = each-flat H (argument_cover labels) us (each-right H c2 c3 homes2);
      operands = each-left H (operand_banks labels) (from_capacity labels slots) h3;
      room = each-left H (capacity labels slots) (from_owners labels) h4;
      read = each-left H o1 (o2 ++ o3) own;
      filled = each-left H o2 o3 own2;
      written = each-right H o2 o3 own2;
      begins = each-left H (adjacency labels) (from_passes labels) h6;
      reads = each-flat H slot_read us (each-left H (flat_map slot_read us) (flat_map (value_written labels) vs) pass);
      writes = each-flat H (value_written labels) vs (each-right H (flat_map slot_read us) (flat_map (value_written labels) vs) pass);
    }

pub known : (labels : List Label) (slots : ℕ) (on : Chosen) → single labels ≡ true → OnlyThere labels on → All (Holds on) (lines labels slots) → Known labels on
known labels slots on s only h =
    let f = families labels slots on (all-each (Holds on) (lines labels slots) h) in
    record { only = only; different = values-different labels s; apart = apart-from 0 (points labels); begins = f.begins }

pub facts : (labels : List Label) (slots : ℕ) (on : Chosen) → single labels ≡ true → OnlyThere labels on → All (Holds on) (lines labels slots) → Facts labels slots on
facts labels slots on s only h =
    let f = families labels slots on (all-each (Holds on) (lines labels slots) h) in
    let g = known labels slots on s only h in
    record {
      values = each-all (ValueFacts labels on) (values labels) (each-from (ValueFacts labels on) (values labels) (λ v i.
          value-facts labels on v
          (record {
            parameter = each-in (λ v. Each (Holds on) (parameter_choice v)) v (values labels) f.parameters i;
            result = each-in (λ v. Each (Holds on) (result_choice labels v)) v (values labels) f.results i;
            copy = each-in (λ v. Each (Holds on) (copy_cover labels v)) v (values labels) f.copies i;
            written = each-in (λ v. Each (Holds on) (value_written labels v)) v (values labels) f.writes i;
          }) g i));
      accesses = each-all (AccessFacts on) (accesses labels) (each-from (AccessFacts on) (accesses labels) (λ a i.
          access-facts labels on a (each-in (λ a. Each (Holds on) (access_choice a)) a (accesses labels) f.accesses_ i) g i));
      uses = each-all (UseFacts labels on) (uses labels) (each-from (UseFacts labels on) (uses labels) (λ u i.
          use-facts labels on u
          (record {
            choice = each-in (λ u. Each (Holds on) (use_choice u)) u (uses labels) f.choices i;
            cover = each-in (λ u. Each (Holds on) (use_cover labels u)) u (uses labels) f.covers i;
            argument = each-in (λ u. Each (Holds on) (argument_cover labels u)) u (uses labels) f.arguments i;
            slot = each-in (λ u. Each (Holds on) (slot_read u)) u (uses labels) f.reads i;
          }) g i));
      points = λ k q at. point-facts labels slots on k q at
          (record {
            operands = each-points (Holds on) operand_lines 0 k k (points labels) q (omega arith) at f.operands;
            room = each-points (Holds on) (λ k (q : Point). room_lines slots q.before) 0 k k (points labels) q (omega arith) at f.room;
            read = each-points (Holds on) (read_owners labels) 0 k k (points labels) q (omega arith) at f.read;
            filled = each-points (Holds on) (fill_owners labels) 0 k k (points labels) q (omega arith) at f.filled;
            written = each-points (Holds on) (write_owners labels) 0 k k (points labels) q (omega arith) at f.written;
          }) g;
    }
