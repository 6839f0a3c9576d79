use Rattle.std.proofs.Common.{◌≡◌, drop}
use Rattle.ras_outside.specs.MemShelf.{entries_of, content_under}
use Rattle.ras_outside.proofs.mem_shelf.find_file.Given as goal

abbrev pub invariant-loop-file : goal.invariant-loop-file
invariant-loop-file l = content_under (entries_of (drop l.file-index l.files)) l.name ≡ content_under (entries_of l.files) l.name
