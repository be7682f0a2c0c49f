-- What the loop of the cleaner keeps: what is joined so far with all that is still to come, and that entries can lead on.
use Rattle.std.specs.Prelude.{◌≡◌, ◌||◌, true, List, [], ◌∷◌, ◌++◌, Option, Some, None, ⊤}
use Rattle.codec.specs.declared.inodes.Inode.{Inode}
use Rattle.undo_redo.specs.Between.{CanLead}
use Rattle.chain_rewriting.specs.Cleaned.{Span, KeptChain, led, step, entries_over, end_over, chain_of}

-- entries can lead from an inode to a kept one, where one of the two is live
abbrev pub MayLead : Inode → Span → Type 0
MayLead before s = (before.alive || s.inode.alive) ≡ true → CanLead before (led before s.inode) s.from

-- entries can lead from an inode over all kept ones
abbrev pub AllLead : Inode → List Span → Type 0
AllLead before [] = ⊤
AllLead before (s ∷ spans) = MayLead before s × AllLead (led before s.inode) spans

-- entries can lead on from what is joined so far
abbrev pub LeadsOn : Option KeptChain → List Span → Type 0
LeadsOn (Some chain) spans = AllLead chain.last spans
LeadsOn None [] = ⊤
LeadsOn None (s ∷ spans) = AllLead s.inode spans

-- entries can lead from what is joined so far to a kept inode
abbrev pub LeadsTo : Option KeptChain → Span → Type 0
LeadsTo None s = ⊤
LeadsTo (Some chain) s = MayLead chain.last s

-- what is joined so far, with a kept inode after it
abbrev pub joined : Option KeptChain → Span → KeptChain
joined None s = record { first = s.inode; entries = []; last = s.inode }
joined (Some chain) s = record { first = chain.first; entries = chain.entries ++ step chain.last s; last = led chain.last s.inode }

-- what is joined so far, with all kept ones after it
abbrev pub continued : Option KeptChain → List Span → Option KeptChain
continued None spans = chain_of spans
continued (Some chain) spans = Some (record { first = chain.first; entries = chain.entries ++ entries_over chain.last spans; last = end_over chain.last spans })
