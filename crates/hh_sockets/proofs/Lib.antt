mod MemoryLaws
