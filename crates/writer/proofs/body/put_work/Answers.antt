-- The least and the most are appended one after the other.
use Rattle.meaning.specs.Record.{body_bytes}
use mir.Syntax.{w16}
use Rattle.encoding.proofs.Appending.{and_then}
use Rattle.encoding.proofs.Fields.{numbered}
use Rattle.writer.proofs.body.put_work.Goals as goal

pub returns : goal.returns
unfolding body_bytes
returns c = and_then (numbered w16 c.args.fields.least c.to_le_bytes.ensures c.put-at.ensures) (numbered w16 c.args.fields.most c.to_le_bytes-2.ensures c.put.ensures)
