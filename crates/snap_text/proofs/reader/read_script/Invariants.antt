use Rattle.snap_text.proofs.Reading.{IsReadSoFar}
use Rattle.snap_text.proofs.reader.read_script.Given as goal

abbrev pub invariant-loop-text : goal.invariant-loop-text
invariant-loop-text l = IsReadSoFar l.fn.bytes l.script l.number l.clones l.text-iterator
