use Rattle.types.proofs.LayLaws.{number-laid}
use Rattle.types.proofs.laying.put_number.Goals as goal

pub returns : goal.returns
returns c =
    let args = c.args in
    rw c.in-Some.is (number-laid args.out.now _ _ args.src.now _ args.at c.in-Some.number c.length_record-r.ensures
    c.put_if.ensures c.put_if-2.ensures)
