-- The verdict of the judge on a table.
use Rattle.channel_tables.specs.Tables.{ChannelTable}
use Rattle.channel_tables.specs.declared.separation.Separation.{Separation}
use Rattle.channel_tables.specs.Apart.{IsApartEverywhere}
use Rattle.channel_tables.specs.Witnesses.{IsWitness}
use Rattle.nbhd_check.specs.declared.verdict.Verdict.{Verdict}
use Rattle.nbhd_check.specs.declared.verdict.Verdict.TheVariants.{Yes, No}

abbrev pub IsVerdict : ChannelTable → Separation → Verdict → Type 0
IsVerdict t s Yes = IsApartEverywhere t s
IsVerdict t s (No witness) = IsWitness t s witness.ring.items witness.places witness.channels
