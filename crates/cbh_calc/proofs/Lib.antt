mod ElementLoop
