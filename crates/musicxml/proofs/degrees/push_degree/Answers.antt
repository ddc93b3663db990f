-- `musicxml::degrees::push_degree` meets its contract: six texts in a row.
use Rattle.answer.specs.Words.{bytes}
use Rattle.musicxml.specs.private.Degrees.{degree_text}
use Rattle.musicxml.proofs.Pushed.{made, then}
use Rattle.musicxml.proofs.degrees.push_degree.Goals as goal

pub returns : goal.returns
unfolding degree_text bytes
returns c = then (then (then (then (then (made c.push_bytes.ensures) (made c.push_bytes-2.ensures)) (made c.push_bytes-3.ensures)) (made c.push_bytes-4.ensures)) (made c.push_bytes-5.ensures)) (made c.push_bytes-6.ensures)
