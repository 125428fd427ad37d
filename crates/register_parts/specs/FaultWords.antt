-- The register's faults in words, byte by byte.
use Rattle.std.specs.Prelude.{ℕ, List, codes}
use Rattle.register_parts.specs.declared.job_fault.JobFault.{JobFault}
use Rattle.register_parts.specs.declared.job_fault.JobFault.TheVariants.{TooLittleMemory, Unknown, BayNotFree, BayFree, BayClosed, NotDominated, NoSuchItem, OnlyReads, NoValue, TooManyPending, ClaimedBy, Overtaken, Stale, ClockAtEnd}

abbrev pub fault_words : JobFault → List ℕ
fault_words TooLittleMemory = codes "too little memory was lent"
fault_words Unknown = codes "there is no such class, bay or kind of job"
fault_words BayNotFree = codes "the bay is not free"
fault_words BayFree = codes "the bay is free"
fault_words BayClosed = codes "the clock has closed the bay"
fault_words NotDominated = codes "the class is not below"
fault_words NoSuchItem = codes "there is no such item"
fault_words OnlyReads = codes "a long job only reads"
fault_words NoValue = codes "the bytes are no value"
fault_words TooManyPending = codes "eight other items are pending"
fault_words (ClaimedBy b) = codes "another bay claims the item"
fault_words Overtaken = codes "the job was overtaken"
fault_words Stale = codes "another bay has overwritten what the job read"
fault_words ClockAtEnd = codes "the clock has run out"
