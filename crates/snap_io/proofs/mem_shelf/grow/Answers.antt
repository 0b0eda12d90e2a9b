use Rattle.std.proofs.Common.{rules, ◌≡◌, Some}
use Rattle.std.specs.BTreeMap.{get_by_text}
use Rattle.snap_io.proofs.StoredFiles.{grown_file, kept_file}
use Rattle.snap_io.proofs.mem_shelf.grow.Goals as goal

pub returns-clause-grown : goal.returns-clause-grown
returns-clause-grown c =
    let there : get_by_text c.args.held.now c.args.name.now ≡ Some c.in-Some.file.now = search rules in
    let held = c.get_mut.follows.lender c.extend_from_slice.new.self in
    grown_file c.args.name.now c.args.held.now held c.in-Some.file.now c.extend_from_slice.new.self c.args.bytes.now there
    ((c.get_mut.follows.holds c.extend_from_slice.new.self).3 (search rules)) c.extend_from_slice.result c.extend_from_slice.ensures.items

pub returns-clause-refused : goal.returns-clause-refused
returns-clause-refused c =
    let there : get_by_text c.args.held.now c.args.name.now ≡ Some c.in-Some.file.now = search rules in
    let held = c.get_mut.follows.lender c.extend_from_slice.new.self in
    kept_file c.args.name.now c.args.held.now held c.in-Some.file.now c.extend_from_slice.new.self c.args.bytes.now there
    ((c.get_mut.follows.holds c.extend_from_slice.new.self).3 (search rules)) c.extend_from_slice.result c.extend_from_slice.ensures.items
