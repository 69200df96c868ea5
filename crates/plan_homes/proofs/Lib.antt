mod HomeLemmas
