mod ReachLemmas
