-- The three faults of a source, each with its place.
use Rattle.tor_edge.specs.declared.place.Place.{Place}

-- what is wrong with bytes that spell no file, and where
pub data SourceFault : Type 0 where
  -- the bytes are no file
  Syntax : Place → SourceFault
  -- too many brackets and `~` are open at once
  TooDeep : Place → SourceFault
  -- a number of 2^64 or more
  NumberTooBig : Place → SourceFault
