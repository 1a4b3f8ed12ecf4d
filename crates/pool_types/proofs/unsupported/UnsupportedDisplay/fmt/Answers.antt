use Rattle.pool_types.proofs.unsupported.UnsupportedDisplay.fmt.Goals as goal

-- where a text has many pieces, what was written is the text as it stands

pub returns-in-MinimumExceedsMaximum-clause-writes : goal.returns-in-MinimumExceedsMaximum-clause-writes
returns-in-MinimumExceedsMaximum-clause-writes g c = rw c.in-MinimumExceedsMaximum.is c.write-in-MinimumExceedsMaximum.ensures.writes

pub returns-in-MemoriesPerModule-clause-writes : goal.returns-in-MemoriesPerModule-clause-writes
returns-in-MemoriesPerModule-clause-writes g c = rw c.in-MemoriesPerModule.is c.write-in-MemoriesPerModule.ensures.writes

pub returns-in-TablesPerModule-clause-writes : goal.returns-in-TablesPerModule-clause-writes
returns-in-TablesPerModule-clause-writes g c = rw c.in-TablesPerModule.is c.write-in-TablesPerModule.ensures.writes

pub returns-in-TotalTables-clause-writes : goal.returns-in-TotalTables-clause-writes
returns-in-TotalTables-clause-writes g c = rw c.in-TotalTables.is c.write-in-TotalTables.ensures.writes

pub returns-in-InstanceSize-clause-writes : goal.returns-in-InstanceSize-clause-writes
returns-in-InstanceSize-clause-writes g c = rw c.in-InstanceSize.is c.write-in-InstanceSize.ensures.writes

pub returns-in-TableSize-clause-writes : goal.returns-in-TableSize-clause-writes
returns-in-TableSize-clause-writes g c = rw c.in-TableSize.is c.write-in-TableSize.ensures.writes

pub returns-in-ComponentMemories-clause-writes : goal.returns-in-ComponentMemories-clause-writes
returns-in-ComponentMemories-clause-writes g c = rw c.in-ComponentMemories.is c.write-in-ComponentMemories.ensures.writes

pub returns-in-ComponentSize-clause-writes : goal.returns-in-ComponentSize-clause-writes
returns-in-ComponentSize-clause-writes g c = rw c.in-ComponentSize.is c.write-in-ComponentSize.ensures.writes
