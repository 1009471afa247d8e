mod Unfound
