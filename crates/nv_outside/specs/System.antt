-- What the system's files and output count.
use Rattle.std.specs.Prelude.{ℕ}
use Rattle.nv_outside.specs.declared.disk.DiskFiles.{DiskFiles}
use Rattle.nv_outside.specs.declared.output.StdSink.{StdSink}

module _ {R File Dir : Type 0} where
  -- how many loads and saves there were
  abbrev pub disk_call_count : DiskFiles R File Dir → ℕ
  disk_call_count files = files.calls

  -- how often loads from the system have failed, and saves, whatever the name
  abbrev pub disk_load_count : DiskFiles R File Dir → ℕ
  disk_load_count files = files.load_faults

  abbrev pub disk_save_count : DiskFiles R File Dir → ℕ
  disk_save_count files = files.save_faults

module _ {R : Type 0} where
  -- how often the standard output has failed
  abbrev pub output_count : StdSink R → ℕ
  output_count sink = sink.faults
